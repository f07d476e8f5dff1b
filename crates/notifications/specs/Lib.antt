pub mod Notifications
