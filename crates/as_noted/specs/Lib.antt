pub mod AsNoted
