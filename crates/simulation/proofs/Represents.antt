-- A state, log and cursor stand for a world still where only what is noted changes, and after a refusal.
use mathlib.Core.Path.{◌≡◌, refl, sym, subst}
use mathlib.Core.List.{List}
use Prim.Native.Nat.{ℕ, zero-le}
use Rattle.undo_log.specs.declared.Cursor.{Cursor}
use Rattle.noting.specs.Note.{Noting}
use Rattle.noting.specs.Standing.{standing_of}
use Rattle.noting.specs.Good.{GoodLog}
use Rattle.calls.specs.Calls as calls
use Rattle.calls.specs.Calls.{World}
use Rattle.graph_division.specs.declared.GraphDivision.{GraphDivision}
use Rattle.graph_division.specs.declared.Outcome.{Outcome}
use Rattle.graph_division.specs.Calls.{Called, called, refuse, with_noted}
use Rattle.graph_division.specs.Outcomes.{answer_for, answer_of}
use Rattle.simulation.specs.Represents.{Represents, Simulates, SimulatesCalled}

pub called_by : (s : GraphDivision) (list : List ℕ) {y z : Called} {o q : calls.Outcome} → y ≡ z → o ≡ q → SimulatesCalled s list z q → SimulatesCalled s list y o
called_by s list {z = z} {o = o} a b h = subst (λ (y : Called). SimulatesCalled s list y o) (sym a) (subst (SimulatesCalled s list z) (sym b) h)

module _ (s : GraphDivision) (log : List ℕ) (c : Cursor) (w : World) (r : Represents s log c w) where
  -- nothing changes but what is noted
  pub noted_represents : (x : Noting) → GoodLog s.plan x → (ls : List ℕ) → ls ≡ standing_of x →
      Represents (with_noted x.noted s) x.log x.cursor (record { standing = ls; reasons = w.reasons; last = w.last; done = w.done })
  unfolding with_noted
  noted_represents x v ls e = record {
    proper = r.proper;
    words = r.words;
    places = r.places;
    valid = v;
    standing = e;
    reasons = r.reasons;
    within = r.within;
    room = r.room;
    fits = r.fits;
    last = r.last;
    done = r.done;
  }

  -- a refusal leaves all
  pub refused_simulates : (n : ℕ) (t : List ℕ) → Simulates s (refuse n s c) log (calls.refuse n w t)
  unfolding refuse calls.refuse answer_of answer_for
  refused_simulates n t = record { answer = refl; represents = r; plan = refl; edges = refl }

  pub refused_called : (n : ℕ) (t list : List ℕ) → SimulatesCalled s list (called (refuse n s c) t list log) (calls.refuse n w t)
  unfolding calls.refuse
  refused_called n t list = record { call = refused_simulates n t; table = refl; list = refl; fits = zero-le }
