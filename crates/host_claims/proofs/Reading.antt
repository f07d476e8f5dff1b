-- The literals that a call gives, handed on or fetched, are read back from its bytes.
use mathlib.Core.Path.{◌≡◌, refl, sym, ap, ap₂, subst, ◌∙◌}
use mathlib.Core.Logic.{⊎_elim}
use mathlib.Core.Bool.{true, false}
use mathlib.Core.List.Memᴰ
use mathlib.Core.List.{List, [], ◌∷◌}
use Prim.Native.Nat.{ℕ, zero, suc, ◌+◌, ◌*◌, ◌/◌, ◌<◌, ◌≤◌}
use native.Mathlib.Omega.{arith}
use lib.IntN.{pos, negsuc, neg_ℤ}
use lib.ListN.{length, get_or, set, take, length-take, length-set, replicate, length-replicate, get_or-eq_default}
use lib.Seq.{sets, length-sets, get_or-set_same, get_or-set_other, get_or-take, take-length}
use borrow.Author.Tests.{lt-ltb}
use Rattle.base.specs.Lists.{tab}
use Rattle.base.proofs.Loop.{pick_yes, pick_no, eq_or_not, tested}
use Rattle.base.proofs.Tests.{le_or_lt}
use Rattle.division.specs.Noting.{In}
use Rattle.noting.specs.Words.{capped}
use Rattle.calls.specs.Calls as calls
use Rattle.graph_division.specs.declared.Answer.{Answer}
use Rattle.graph_division.specs.declared.Answer.TheVariants.{Consistent, Conflict, Noted, Undone, Reason, Run, Page}
use Rattle.graph_division.specs.declared.Answer.TheVariants.{Refused}
use Rattle.graph_division.specs.Answers.{values_of}
use Rattle.graph_division.specs.Outcomes.{answer_for, answer_of}
use Rattle.graph_division.specs.Runs.{Request, initialize, propagate, undo, ask, lent_list, Kept, Reply, reply}
use Rattle.claims.specs.Whole.{literals_of, written_by, written_of, Whole}
use Rattle.byte_calls.specs.Codes.{fitted, answer_code, given_by}
use Rattle.byte_calls.specs.Layout.{used_entries, list_in, buffer_in}
use Rattle.byte_calls.specs.Stores.{put_list}
use Rattle.byte_calls.proofs.Filling.{capped_most}
use Rattle.byte_calls.proofs.ReadBack.{half_at, list_back}
use Rattle.host_claims.specs.HostRuns.{Said, HostMade, initializes, propagates, undoes, asks, HostAnswers}
use Rattle.host_claims.specs.HostRuns.{asks_page, entry_bytes, entries_in, bytes_after, literals_at, values_at}
use Rattle.host_claims.proofs.Signed.{up, up_negated, up_is}
use Rattle.host_claims.proofs.Runs.{in_words, made_room, page_few}

-- a table of numbers is the list that it gives entry by entry
tab_is : (f : ℕ → ℕ) (h : List ℕ) → ((i : ℕ) → i < length h → f i ≡ get_or h i 0) → tab f (length h) ≡ h
unfolding tab
tab_is f [] e = refl
tab_is f (x ∷ h) e = ap₂ (λ (a : ℕ) (l : List ℕ). a ∷ l) (e 0 (omega arith)) (tab_is (λ i. f (suc i)) h (λ i k. e (suc i) (omega arith)))

-- every entry below 65536, all entries below it stored
abbrev Small : List ℕ → Type 0
Small l = (i : ℕ) → get_or l i 0 < 65536

set_small : (l : List ℕ) (p x : ℕ) → Small l → x < 65536 → Small (set l p x)
set_small l p x s h i = ⊎_elim
    (λ (e : i ≡ p). ⊎_elim
    (λ (o : length l ≤ i). let z : get_or (set l p x) i 0 ≡ 0 = get_or-eq_default (set l p x) 0 (omega (arith, length-set l p x)) in omega (arith, z))
    (λ (o : i < length l). let z = ap (λ (j : ℕ). get_or (set l p x) j 0) e ∙ get_or-set_same l p x 0 (omega arith) in omega (arith, z))
    (le_or_lt (length l) i))
    (λ f. let z = get_or-set_other l p i x 0 f in omega (arith, z, s i))
    (eq_or_not i p)

sets_small : (vs l : List ℕ) (p : ℕ) → Small l → ((v : ℕ) → In vs v → v < 65536) → Small (sets l p vs)
sets_small [] l p s h = s
sets_small (v ∷ vs) l p s h = sets_small vs (set l p v) (suc p) (set_small l p v s (h v (Memᴰ.head refl))) (λ w m. h w (Memᴰ.tail m))

zeros_small : (n m : ℕ) → Small (take n (replicate m 0))
zeros_small n m i = ⊎_elim
    (λ (o : n ≤ i). let z : get_or (take n (replicate {A = ℕ} m 0)) i 0 ≡ 0 = get_or-eq_default (take n (replicate {A = ℕ} m 0)) 0 (omega (arith, length-take n (replicate {A = ℕ} m 0))) in omega (arith, z))
    (λ (o : i < n). let z = get_or-take n (replicate {A = ℕ} m 0) i 0 o in omega (arith, z, zero_at m i))
    (le_or_lt n i)
  where
    zero_at : (m i : ℕ) → get_or (replicate {A = ℕ} m 0) i 0 ≡ 0
    zero_at zero zero = refl
    zero_at zero (suc i) = refl
    zero_at (suc m) zero = refl
    zero_at (suc m) (suc i) = zero_at m i

none_small : Small []
none_small zero = omega arith
none_small (suc i) = omega arith

-- the list that a call of the host is lent, in words: zeros, and no more than 4352; a page's buffer has bytes
made_small : {k k' : Kept} {q : Request} {list : List ℕ} {x : Said} → asks_page q ≡ false → HostMade k q list x k' → Small (lent_list q)
unfolding lent_list list_in buffer_in asks_page entries_in
made_small o (initializes r state t list log cursor state' t' list' log' cursor' p e s) = zeros_small (used_entries (length list / 2)) 4352
made_small o (propagates r lit pending state t list log cursor state' t' list' log' cursor' p e s) = zeros_small (used_entries (length list / 2)) 4352
made_small o (undoes r lit state log cursor state' cursor' p e s) = none_small
made_small o (asks r q state log cursor buffer buffer' p e) = subst Small (sym (pick_no _ _ o)) (zeros_small (capped (length buffer / 2) 260) 260)

made_few : {k k' : Kept} {q : Request} {list : List ℕ} {x : Said} → asks_page q ≡ false → HostMade k q list x k' → length (lent_list q) ≤ 4352
unfolding lent_list list_in buffer_in used_entries asks_page entries_in
made_few o (initializes r state t list log cursor state' t' list' log' cursor' p e s) =
    omega (arith, length-take (capped (length list / 2) 4352) (replicate {A = ℕ} 4352 0), capped_most (length list / 2) 4352)
made_few o (propagates r lit pending state t list log cursor state' t' list' log' cursor' p e s) =
    omega (arith, length-take (capped (length list / 2) 4352) (replicate {A = ℕ} 4352 0), capped_most (length list / 2) 4352)
made_few o (undoes r lit state log cursor state' cursor' p e s) = omega arith
made_few o (asks r q state log cursor buffer buffer' p e) =
    omega (
      arith,
      ap length (pick_no buffer (buffer_in buffer) o),
      length-take (capped (length buffer / 2) 260) (replicate {A = ℕ} 260 0),
      capped_most (length buffer / 2) 260,
    )

-- two bytes an entry
words_room : {k k' : Kept} {q : Request} {list : List ℕ} {x : Said} → asks_page q ≡ false → HostMade k q list x k' → 2 * length (lent_list q) ≤ length list
unfolding entry_bytes
words_room {q = q} {list = list} o m =
    subst (λ (w : ℕ). w * length (lent_list q) ≤ length list) (pick_no {A = ℕ} 1 2 o) (made_room m)

pub fitted_is : (n : ℕ) → n ≤ 4352 → fitted n ≡ n
unfolding fitted capped
fitted_is n h = pick_yes _ _ (lt-ltb n 2147483647 (omega arith))

fitted_up : (n : ℕ) → n ≤ 4352 → up (pos (fitted n)) ≡ n
unfolding up
fitted_up n h = fitted_is n h

-- h stands whole in the list l, of which the first entries are written to the bytes
read_back : (h l list : List ℕ) → ((v : ℕ) → In h v → v < 65536) → Small l → take (length h) l ≡ h → length h ≤ length l → 2 * length l ≤ length list →
    literals_at (put_list l (length h) list) (length h) ≡ h
unfolding literals_at half_at
read_back h l list small s e k r = tab_is _ h (λ i b.
    list_back l list (length h) s r i b (omega arith)
    ∙ sym (get_or-take (length h) l i 0 b) ∙ ap (λ (m : List ℕ). get_or m i 0) e)

module _ {h k k' : Kept} {q : Request} {list : List ℕ} {x : Said} (o : calls.Outcome) (w : Whole h q o) (a : HostAnswers h q list x) (m : HostMade k q list x k')
    (small : (v : ℕ) → In (written_of o) v → v ≤ 8191) (words : asks_page q ≡ false) where
  -- an answer that gives all that is written
  module _ (b : calls.Answer) (answered : o.answer ≡ b) (v : List ℕ) (writes : written_by b o.handed ≡ v)
      (values : (l : List ℕ) → values_of (answer_for b (length o.handed)) l ≡ take (length v) l)
      (many : given_by (answer_for b (length o.handed)) ≡ length v) (code : answer_code (answer_for b (length o.handed)) ≡ pos (fitted (length v))) where
    answer_is : (reply h q).answer ≡ answer_for b (length o.handed)
    unfolding answer_of
    answer_is = w.answer ∙ ap (λ (z : calls.Answer). answer_for z (length o.handed)) answered

    written_is : written_of o ≡ v
    written_is = ap (λ (z : calls.Answer). written_by z o.handed) answered ∙ writes

    lits : literals_of (reply h q) ≡ v
    unfolding answer_of
    lits =
        w.values ∙ ap (λ (z : calls.Answer). values_of (answer_for z (length o.handed)) (written_of o)) answered
        ∙ values (written_of o) ∙ ap (take (length v)) written_is ∙ take-length v

    taken : take (length v) (reply h q).list ≡ v
    taken = sym (values (reply h q).list) ∙ sym (ap (λ (z : Answer). values_of z (reply h q).list) answer_is) ∙ lits

    list_is : (reply h q).list ≡ sets (lent_list q) 0 v
    list_is = w.list ∙ ap (sets (lent_list q) 0) written_is

    lits_small : (u : ℕ) → In v u → u < 65536
    lits_small u i = let z = small u (subst (λ (l : List ℕ). In l u) (sym written_is) i) in omega arith

    list_small : Small (reply h q).list
    list_small = subst Small (sym list_is) (sets_small v (lent_list q) 0 (made_small words m) lits_small)

    list_long : length (reply h q).list ≡ length (lent_list q)
    list_long = ap length list_is ∙ length-sets (lent_list q) 0 v

    fits : length v ≤ length (reply h q).list
    fits = let z = ap length taken in omega (arith, z, length-take (length v) (reply h q).list)

    code_is : (n : ℕ) → x.code ≡ pos n → n ≡ length v
    code_is n e =
        up_is (pos (fitted (length v))) n (sym (a.code ∙ ap answer_code answer_is ∙ code) ∙ e)
        ∙ fitted_up (length v) (omega (arith, fits, list_long, made_few words m))

    bytes_are : x.list ≡ put_list (reply h q).list (length v) list
    bytes_are = a.literals ∙ in_words words _ _ list ∙ ap (λ (z : ℕ). put_list (reply h q).list z list) (ap given_by answer_is ∙ many)

    whole_read : (n : ℕ) → x.code ≡ pos n → literals_at x.list n ≡ literals_of (reply h q)
    whole_read n e =
        ap₂ literals_at bytes_are (code_is n e)
        ∙ read_back v (reply h q).list list lits_small list_small taken fits (omega (arith, list_long, words_room words m))
        ∙ sym lits

  -- one that gives none: no number of literals but 0
  none_read : (b : calls.Answer) → o.answer ≡ b → ((l : List ℕ) → values_of (answer_for b (length o.handed)) l ≡ []) → up (answer_code (answer_for b (length o.handed))) ≡ 0 →
      (n : ℕ) → x.code ≡ pos n → literals_at x.list n ≡ literals_of (reply h q)
  unfolding answer_of literals_at tab
  none_read b e f g n c =
      let s : (reply h q).answer ≡ answer_for b (length o.handed) = w.answer ∙ ap (λ (z : calls.Answer). answer_for z (length o.handed)) e in
      ap (literals_at x.list) (up_is x.code n c ∙ ap up (a.code ∙ ap answer_code s) ∙ g)
      ∙ sym (ap (λ (z : Answer). values_of z (reply h q).list) s ∙ f (reply h q).list)

  read_by : (b : calls.Answer) → o.answer ≡ b → (n : ℕ) → x.code ≡ pos n → literals_at x.list n ≡ literals_of (reply h q)
  unfolding values_of answer_for written_by answer_code up
  read_by calls.consistent e = whole_read calls.consistent e o.handed refl (λ l. refl) refl refl
  read_by (calls.reason ls) e = whole_read (calls.reason ls) e ls refl (λ l. refl) refl refl
  read_by (calls.found_run gs) e = whole_read (calls.found_run gs) e gs refl (λ l. refl) refl refl
  read_by (calls.printed_page bs) e = whole_read (calls.printed_page bs) e bs refl (λ l. refl) refl refl
  read_by calls.conflicting e = none_read calls.conflicting e (λ l. refl) refl
  read_by calls.noted e = none_read calls.noted e (λ l. refl) refl
  read_by calls.undone e = none_read calls.undone e (λ l. refl) refl
  read_by (calls.refused i) e = none_read (calls.refused i) e (λ l. refl) (up_negated (fitted i))

  words_read : (n : ℕ) → x.code ≡ pos n → literals_at x.list n ≡ literals_of (reply h q)
  words_read = read_by o.answer refl

-- a page's bytes, as many as its number says
page_values : (a : Answer) (l : List ℕ) (n : ℕ) → given_by a ≤ 2496 → answer_code a ≡ pos n → take n l ≡ values_of a l
unfolding answer_code values_of up
page_values (Consistent k) l n h e = ap (λ (j : ℕ). take j l) (up_is (pos (fitted k)) n e ∙ fitted_is k (omega arith))
page_values Conflict l n h e = ap (λ (j : ℕ). take j l) (up_is (negsuc 99) n e)
page_values Noted l n h e = ap (λ (j : ℕ). take j l) (up_is (negsuc 100) n e)
page_values Undone l n h e = ap (λ (j : ℕ). take j l) (up_is (pos 0) n e)
page_values (Reason k) l n h e = ap (λ (j : ℕ). take j l) (up_is (pos (fitted k)) n e ∙ fitted_is k (omega arith))
page_values (Run k) l n h e = ap (λ (j : ℕ). take j l) (up_is (pos (fitted k)) n e ∙ fitted_is k (omega arith))
page_values (Page k) l n h e = ap (λ (j : ℕ). take j l) (up_is (pos (fitted k)) n e ∙ fitted_is k (omega arith))
page_values (Refused k) l n h e = ap (λ (j : ℕ). take j l) (up_is (neg_ℤ (pos (fitted k))) n e ∙ up_negated (fitted k))

pub host_reads : {h k k' : Kept} {q : Request} {list : List ℕ} {x : Said} (o : calls.Outcome) → Whole h q o → HostAnswers h q list x → HostMade k q list x k' →
    ((v : ℕ) → In (written_of o) v → v ≤ 8191) → (n : ℕ) → x.code ≡ pos n → values_at (asks_page q) x.list n ≡ literals_of (reply h q)
unfolding values_at bytes_after
host_reads {h} {q = q} {x = x} o w a m small n e = tested (asks_page q)
    (λ t. pick_yes _ _ t ∙ ap (take n) (a.literals ∙ pick_yes _ _ t)
    ∙ page_values (reply h q).answer (reply h q).list n (page_few h q t) (sym a.code ∙ e))
    (λ t. pick_no _ _ t ∙ words_read o w a m small t n e)
