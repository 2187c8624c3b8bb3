-- The keys that a map holds, as they are gone over and written.
use Rattle.std.proofs.Common.{◌≡◌, ℕ, ◌+◌, List, [], ◌∷◌, ◌++◌, length, map, Bor, refl, sym, ap, subst, ◌∙◌, append_assoc, append-nil}
use Rattle.std.specs.Prelude.{Contains}
use Rattle.std.specs.List.{All}
use Rattle.std.specs.Map.Iter.{deref_pair}
use Rattle.std.proofs.lemmas.List.{map-append, length-map}
use Rattle.std.proofs.lemmas.List.Elements.{All-contains, All-push, Contains-append_right}
use Rattle.wal_base.proofs.Laws.{within_head}
use Rattle.batch_repr.specs.Written.{written}
use Rattle.text_lines.specs.Store.{Held}
use Rattle.text_lines.specs.Holding.{shown}
use Rattle.table_text.specs.Tables.{IsHeldWithin, set_batch, set_batches}
use Rattle.table_text.proofs.Rows.{sets_push}

abbrev pub Pair : Type 0
Pair = Bor (List ℕ) × Bor (List ℕ)

-- the keys that were gone over
abbrev pub gone_over : List (Bor (Bor (List ℕ)) × Bor (Bor (List ℕ))) → List Held
gone_over pairs = map shown (map deref_pair pairs)

gone_push : (pairs : List (Bor (Bor (List ℕ)) × Bor (Bor (List ℕ)))) (pair : Bor (Bor (List ℕ)) × Bor (Bor (List ℕ)))
    → gone_over (pairs ++ pair ∷ []) ≡ gone_over pairs ++ shown (deref_pair pair) ∷ []
gone_push pairs pair = ap (map shown) (map-append deref_pair pairs (pair ∷ [])) ∙ map-append shown (map deref_pair pairs) (deref_pair pair ∷ [])

-- what is written for them, with one more
pub written_push : (number : ℕ) (pairs : List (Bor (Bor (List ℕ)) × Bor (Bor (List ℕ)))) (pair : Bor (Bor (List ℕ)) × Bor (Bor (List ℕ)))
    → map written (set_batches number (gone_over (pairs ++ pair ∷ [])))
    ≡ map written (set_batches number (gone_over pairs)) ++ written (set_batch (number + length pairs) (shown (deref_pair pair))) ∷ []
written_push number pairs pair =
    let live : List Held = gone_over pairs in
    let held : Held = shown (deref_pair pair) in
    let more : gone_over (pairs ++ pair ∷ []) ≡ live ++ held ∷ [] = gone_push pairs pair in
    let many : length live ≡ length pairs = length-map (map deref_pair pairs) shown ∙ length-map pairs deref_pair in
    ap (λ (l : List Held). map written (set_batches number l)) more ∙ ap (map written) (sets_push number live held)
    ∙ map-append written (set_batches number live) (set_batch (number + length live) held ∷ [])
    ∙ ap (λ (n : ℕ). map written (set_batches number live) ++ written (set_batch (number + n) held) ∷ []) many

pub written_none : (number : ℕ) → map written (set_batches number []) ≡ []
unfolding set_batches
written_none number = refl

-- the key that comes next is within its limits, as all are
pub next_within : (pairs : List (Bor (Bor (List ℕ)) × Bor (Bor (List ℕ)))) (pair : Bor (Bor (List ℕ)) × Bor (Bor (List ℕ))) (left later entries : List Pair)
    → map deref_pair pairs ++ left ≡ entries → left ≡ deref_pair pair ∷ later → All IsHeldWithin (map shown entries) → IsHeldWithin (shown (deref_pair pair))
next_within pairs pair left later entries all next within =
    let rest : map shown entries ≡ gone_over pairs ++ shown (deref_pair pair) ∷ map shown later = ap (map shown) (sym all)
    ∙ map-append shown (map deref_pair pairs) left ∙ ap (λ (l : List Pair). gone_over pairs ++ map shown l) next in
    All-contains IsHeldWithin (map shown entries) (shown (deref_pair pair)) within
    (subst (λ (l : List Held). Contains l (shown (deref_pair pair))) (sym rest)
    (Contains-append_right (gone_over pairs) (shown (deref_pair pair) ∷ map shown later) (shown (deref_pair pair)) (within_head (shown (deref_pair pair)) (map shown later))))

-- with it gone over, the others are left
pub gone_on : (pairs : List (Bor (Bor (List ℕ)) × Bor (Bor (List ℕ)))) (pair : Bor (Bor (List ℕ)) × Bor (Bor (List ℕ))) (left later entries : List Pair)
    → map deref_pair pairs ++ left ≡ entries → left ≡ deref_pair pair ∷ later → map deref_pair (pairs ++ pair ∷ []) ++ later ≡ entries
gone_on pairs pair left later entries all next =
    ap (λ (l : List Pair). l ++ later) (map-append deref_pair pairs (pair ∷ [])) ∙ append_assoc (map deref_pair pairs) (deref_pair pair ∷ []) later
    ∙ ap (λ (l : List Pair). map deref_pair pairs ++ l) (sym next) ∙ all

-- and in the end all are gone over
pub all_gone : (pairs : List (Bor (Bor (List ℕ)) × Bor (Bor (List ℕ)))) (left entries : List Pair) → map deref_pair pairs ++ left ≡ entries → left ≡ []
    → gone_over pairs ≡ map shown entries
all_gone pairs left entries all none =
    ap (map shown) (sym (append-nil (map deref_pair pairs)) ∙ ap (λ (l : List Pair). map deref_pair pairs ++ l) (sym none) ∙ all)

-- those that were gone over are within their limits, with one more
pub within_push : (pairs : List (Bor (Bor (List ℕ)) × Bor (Bor (List ℕ)))) (pair : Bor (Bor (List ℕ)) × Bor (Bor (List ℕ)))
    → All IsHeldWithin (gone_over pairs) → IsHeldWithin (shown (deref_pair pair)) → All IsHeldWithin (gone_over (pairs ++ pair ∷ []))
within_push pairs pair so_far here =
    subst (All IsHeldWithin) (sym (gone_push pairs pair)) (All-push IsHeldWithin (gone_over pairs) (shown (deref_pair pair)) so_far here)
