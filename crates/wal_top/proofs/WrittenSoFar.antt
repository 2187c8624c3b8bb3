-- A text that is written piece by piece: what is written and what is left make the text.
use Rattle.std.proofs.Common.{◌≡◌, ℕ, ◌-◌, List, [], ◌++◌, length, take, drop, Option, Some, None, refl, sym, ap, ◌∙◌, append_assoc}
use Rattle.std.proofs.lemmas.List.{append-nil, take-append-drop, take_rest}
use Rattle.wal_base.specs.Told.{told_back}
use Rattle.wal_top.specs.Run.{Wrote, WrotePart}

pub record WroteFront (before after : Option (List ℕ)) (text rest : List ℕ) : Type 0 where
  pub front : List ℕ
  pub text_is : text ≡ front ++ rest
  pub wrote : Wrote before after front

wrote_nothing : (told : Option (List ℕ)) → told ≡ told_back told []
wrote_nothing None = refl
wrote_nothing (Some bytes) = ap (λ (x : List ℕ). Some x) (sym (append-nil bytes))

wrote_more : (told : Option (List ℕ)) (a b : List ℕ) → told_back (told_back told a) b ≡ told_back told (a ++ b)
wrote_more None a b = refl
wrote_more (Some bytes) a b = ap (λ (x : List ℕ). Some x) (append_assoc bytes a b)

-- nothing yet
pub front_first : (told : Option (List ℕ)) (text : List ℕ) → WroteFront told told text text
front_first told text = record { front = []; text_is = refl; wrote = wrote_nothing told }

-- a piece more
front_more : (before mid after : Option (List ℕ)) (text rest : List ℕ) (n : ℕ) → WroteFront before mid text rest
    → after ≡ told_back mid (take n rest) → WroteFront before after text (drop n rest)
front_more before mid after text rest n h e = record {
  front = h.front ++ take n rest;
  text_is = h.text_is ∙ ap (λ (t : List ℕ). h.front ++ t) (sym (take-append-drop n rest)) ∙ sym (append_assoc h.front (take n rest) (drop n rest));
  wrote = e ∙ ap (λ (t : Option (List ℕ)). told_back t (take n rest)) h.wrote ∙ wrote_more before h.front (take n rest);
}

pub part_of : (before after : Option (List ℕ)) (text rest : List ℕ) → WroteFront before after text rest → WrotePart before after text
part_of before after text rest h = record { front = h.front; rest = rest; text_is = h.text_is; wrote = h.wrote }

pub whole_of : (before after : Option (List ℕ)) (text rest : List ℕ) → WroteFront before after text rest → rest ≡ [] → Wrote before after text
whole_of before after text rest h e = h.wrote ∙ ap (told_back before) (sym (h.text_is ∙ ap (λ (t : List ℕ). h.front ++ t) e ∙ append-nil h.front))

-- a piece more, with the rest as a slice has it
pub front_next : (before mid after : Option (List ℕ)) (text rest : List ℕ) (n : ℕ) → WroteFront before mid text rest
    → after ≡ told_back mid (take n rest) → WroteFront before after text (take (length rest - n) (drop n rest))
front_next before mid after text rest n h e = rw (take_rest rest n) (front_more before mid after text rest n h e)
