-- To be joined is an equivalence.
use Prim.Native.Nat.{ℕ, ◌<◌}
use mathlib.Core.Path.{◌≡◌, refl}
use mathlib.Core.Bool.{true}
use mathlib.Core.Logic.{inl, inr, ⊎_elim}
use mathlib.Core.List.{List, [], ◌∷◌}
use Rattle.graph.specs.Search.{Graph, is_open, end_a, end_b}
use Rattle.graph.specs.Paths.{Leads, Chain, here, there, Joined}

pub joined_refl : {e : Graph} {edges : ℕ} (p : ℕ) → Joined e edges p p
joined_refl p = ([], here)

-- an edge that can be passed joins its ends
pub joined_edge : (e : Graph) (edges g : ℕ) → g < edges → is_open e g ≡ true → Joined e edges (end_a e g) (end_b e g)
joined_edge e edges g h o = (g ∷ [], there g here (record { known = h; passed = o; ends = inl (refl, refl) }))

leads_back : {e : Graph} {edges g p q : ℕ} → Leads e edges g p q → Leads e edges g q p
leads_back l = record { known = l.known; passed = l.passed; ends = ⊎_elim (λ w. inr (w.1, w.0)) (λ w. inl (w.1, w.0)) l.ends }

pub joined_trans : {e : Graph} {edges p q r : ℕ} → Joined e edges p q → Joined e edges q r → Joined e edges p r
joined_trans {e} {edges} {p} {q} a b = go b.1
  where
    go : {l : List ℕ} {r : ℕ} → Chain e edges q l r → Joined e edges p r
    go here = a
    go (there g c l) = let x = go c in (g ∷ x.0, there g x.1 l)

pub joined_sym : {e : Graph} {edges p q : ℕ} → Joined e edges p q → Joined e edges q p
joined_sym {e} {edges} {p} a = go a.1
  where
    go : {l : List ℕ} {q : ℕ} → Chain e edges p l q → Joined e edges q p
    go here = joined_refl p
    go (there g c l) = joined_trans (g ∷ [], there g here (leads_back l)) (go c)
