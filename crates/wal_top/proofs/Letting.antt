-- A text that is added to item by item, where each item is let go once its lines stand.
use Rattle.std.proofs.Common.{◌≡◌, ◌<◌, ℕ, List, [], ◌∷◌, ◌++◌, length, take, get_or, ap, sym, ◌∙◌, append_assoc, append-nil}
use Rattle.std.specs.List.{flat_map}
use Rattle.std.proofs.lemmas.List.{length_push, take_more}
use Rattle.std.proofs.lemmas.List.Concat.{flat_map-cons}
use Rattle.std.proofs.lemmas.Grind.{flat_map-append}

-- the items that were yielded, and one more
yielded_more : {X : Type 0} (yielded items : List X) (x : X) → length yielded < length items → x ≡ get_or items (length yielded) x
    → take (length (yielded ++ x ∷ [])) items ≡ take (length yielded) items ++ x ∷ []
yielded_more yielded items x lt is =
    ap (λ n. take n items) (length_push yielded x) ∙ take_more items (length yielded) x lt ∙ ap (λ y. take (length yielded) items ++ y ∷ []) (sym is)

one_more : {X : Type 0} (f : X → List ℕ) (x : X) → flat_map f (x ∷ []) ≡ f x
one_more f x = flat_map-cons f x [] ∙ append-nil (f x)

-- the lines of one item more
pub lines_more : {X : Type 0} (f : X → List ℕ) (old text : List ℕ) (yielded items : List X) (x : X) → length yielded < length items
    → x ≡ get_or items (length yielded) x
    → text ≡ old ++ flat_map f (take (length yielded) items) → text ++ f x ≡ old ++ flat_map f (take (length (yielded ++ x ∷ [])) items)
lines_more f old text yielded items x lt is stood =
    ap (λ t. t ++ f x) stood ∙ append_assoc old (flat_map f (take (length yielded) items)) (f x)
    ∙ ap (λ l. old ++ l) (ap (λ l. flat_map f (take (length yielded) items) ++ l) (sym (one_more f x))
    ∙ sym (flat_map-append f (take (length yielded) items) (x ∷ [])) ∙ ap (λ l. flat_map f l) (sym (yielded_more yielded items x lt is)))
