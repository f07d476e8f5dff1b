-- A number that is handed on as it is, to a call and from it.
use mathlib.Core.Path.{◌≡◌, ap, subst, ◌∙◌}
use mathlib.Core.Bool.{Bool}
use mathlib.Core.List.{List}
use Prim.Native.Nat.{ℕ}
use lib.IntN.{ℤ}
use Rattle.graph_division.specs.declared.Outcome.{Outcome}
use Rattle.byte_calls.specs.Host.{Left, left_with, Back, back}
use Rattle.byte_calls.specs.After.{Leaves}
use Rattle.byte_calls.specs.Build.{BuiltIn}

pub left_handed : (r s : ℤ) (t list log cursor : List ℕ) (x : Left) → s ≡ r → left_with r t list log cursor ≡ x → left_with s t list log cursor ≡ x
left_handed r s t list log cursor x e h = ap (λ (r : ℤ). left_with r t list log cursor) e ∙ h

pub back_handed : (r s : ℤ) (cursor : List ℕ) (x : Back) → s ≡ r → back r cursor ≡ x → back s cursor ≡ x
back_handed r s cursor x e h = ap (λ (r : ℤ). back r cursor) e ∙ h

pub leaves_handed : (b : Bool) (y z : Outcome) (before after : List ℕ) → y ≡ z → Leaves b y before after → Leaves b z before after
leaves_handed b y z before after e h = subst (λ (y : Outcome). Leaves b y before after) e h

pub built_handed : (vs : List ℤ) (n : ℕ) (es : List ℤ) (m : ℕ) (a c b d : ℤ) (before after : List ℕ) → a ≡ c → b ≡ d →
    BuiltIn vs n es m a b before after → BuiltIn vs n es m c d before after
built_handed vs n es m a c b d before after e f h =
    subst (λ (o : ℤ). BuiltIn vs n es m c o before after) f (subst (λ (o : ℤ). BuiltIn vs n es m o b before after) e h)
