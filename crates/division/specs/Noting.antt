-- The Rust's `notify`: what noting a literal does to edge states and bounds.
use Rattle.std.specs.Prelude.{ℕ, suc, pred, ◌&&◌, eqb, ltb, get_or}
use mathlib.Core.List.{List, [], ◌∷◌, Memᴰ}
use Rattle.base.specs.Iter.{iter, pick}
use Rattle.base.specs.Lists.{tab}
use Rattle.sat.specs.Literal.{negate}
use Rattle.division.specs.Plan.{Plan}
use Rattle.division.specs.State.{State}

-- a bound, and its literal
pub record Bound : Type 0 where
  pub bound : ℕ
  pub lits : List ℕ

-- literal l raises a lower bound of vertex v
unfoldable pub raise : Plan → ℕ → ℕ → Bound → Bound
raise d l v b =
    iter (λ j a. pick (eqb l (d.dom_lit v j) && ltb a.bound (d.domain v (suc j))) (record { bound = d.domain v (suc j); lits = l ∷ [] }) a) (pred (d.domain_len v)) b

-- literal l cuts an upper bound of vertex v
unfoldable pub lessen : Plan → ℕ → ℕ → Bound → Bound
lessen d l v b =
    iter (λ j a. pick (eqb l (negate (d.dom_lit v j)) && ltb (d.domain v j) a.bound) (record { bound = d.domain v j; lits = l ∷ [] }) a) (pred (d.domain_len v)) b

-- the state of edge g after literal l, where it was x
unfoldable pub turn : Plan → ℕ → ℕ → ℕ → ℕ
turn d l g x = pick (eqb l (d.edge_lit g)) 1 (pick (eqb l (negate (d.edge_lit g))) 2 x)

abbrev pub low_bound : State → ℕ → Bound
low_bound s v = record { bound = s.lower v; lits = s.lower_lit v }

abbrev pub high_bound : State → ℕ → Bound
high_bound s v = record { bound = s.upper v; lits = s.upper_lit v }

-- `notify`
unfoldable pub note_one : Plan → ℕ → State → State
note_one d l s = record {
  edge_state = tab (λ g. turn d l g (get_or s.edge_state g 0)) d.edges;
  lower = λ v. (raise d l v (low_bound s v)).bound;
  upper = λ v. (lessen d l v (high_bound s v)).bound;
  lower_lit = λ v. (raise d l v (low_bound s v)).lits;
  upper_lit = λ v. (lessen d l v (high_bound s v)).lits;
}

-- nothing noted: document 01, "An empty domain bounds nothing: lower 0, upper 2147483647"
unfoldable pub unnoted : Plan → State
unnoted d = record {
  edge_state = tab (λ g. 0) d.edges;
  lower = λ v. pick (ltb 0 (d.domain_len v)) (d.domain v 0) 0;
  upper = λ v. pick (ltb 0 (d.domain_len v)) (d.domain v (pred (d.domain_len v))) 2147483647;
  lower_lit = λ v. [];
  upper_lit = λ v. [];
}

-- the standing literals, the newest first
unfoldable pub note_all : Plan → List ℕ → State
note_all d [] = unnoted d
note_all d (l ∷ ls) = note_one d l (note_all d ls)

abbrev pub In : List ℕ → ℕ → Type 0
In ls l = Memᴰ l ls

-- no literal stands beside its negation
abbrev pub Consistent : List ℕ → Type 0
Consistent ls = (l : ℕ) → In ls l → In ls (negate l) → ⊥
