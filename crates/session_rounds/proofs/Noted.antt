-- Reply by reply, turn by turn and round by round, a transcript is added to.
use Rattle.std.specs.Prelude.{◌≡◌, ◌||◌, ℕ, Bool, true, false, List, [], ◌∷◌, ◌++◌, Option, Some, None}
use Rattle.std.specs.List.{list_any}
use Rattle.std.proofs.Common.{refl, sym, ap, ◌∙◌, append_assoc}
use Rattle.std.proofs.lemmas.List.{append-nil}
use Rattle.std.proofs.lemmas.Grind.{flat_map-append}
use Rattle.session_replies.specs.Legal.{Replied, replies_text}
use Rattle.session_replies.specs.Replies.{reply_line}
use Rattle.session_replies.specs.Theorems.{tells_limit, limit_told}
use Rattle.session_rounds.specs.declared.transcript.Transcript.{Transcript}
use Rattle.session_rounds.specs.Transcripts.{replies_lines, any_limited, with_lines, with_text, no_text, blank_of, with_told}
use Rattle.session_rounds.specs.Transcripts.{NotesReply, NotesReplies, NotesRounds}

-- ---- lines and limits

or_none : (a : Bool) → (a || false) ≡ a
or_none true = refl
or_none false = refl

or_assoc : (a b c : Bool) → ((a || b) || c) ≡ (a || (b || c))
or_assoc true b c = refl
or_assoc false b c = refl

any-append : {X : Type 0} (test : X → Bool) (xs ys : List X) → list_any test (xs ++ ys) ≡ (list_any test xs || list_any test ys)
any-append test [] ys = refl
any-append test (x ∷ xs) ys = ap (λ (b : Bool). test x || b) (any-append test xs ys) ∙ sym (or_assoc (test x) (list_any test xs) (list_any test ys))

with_none : (text : Option (List ℕ)) → text ≡ with_lines text []
with_none None = refl
with_none (Some text) = ap Some (sym (append-nil text))

with_both : (text : Option (List ℕ)) (xs ys : List ℕ) → with_lines (with_lines text xs) ys ≡ with_lines text (xs ++ ys)
with_both None xs ys = refl
with_both (Some text) xs ys = ap Some (append_assoc text xs ys)

-- what a blank text was filled with comes after a text that is kept
joined_lines : (text : Option (List ℕ)) (xs : List ℕ) → with_text text (with_lines (no_text text) xs) ≡ with_lines text xs
joined_lines None xs = refl
joined_lines (Some text) xs = refl

-- ---- replies

abbrev line_of : Replied → List ℕ
line_of r = reply_line r.line.session r.said

abbrev limit_of : Replied → Bool
limit_of r = tells_limit r.said

pub none_noted : (told : Transcript) → NotesReplies [] told told
none_noted told = record { text = with_none told.text; limited = sym (or_none told.limited) }

pub replies_then : (one two : List Replied) (old mid new : Transcript) → NotesReplies one old mid → NotesReplies two mid new
    → NotesReplies (one ++ two) old new
replies_then one two old mid new first then = record {
  text = then.text ∙ ap (λ (t : Option (List ℕ)). with_lines t (replies_lines two)) first.text
      ∙ with_both old.text (replies_lines one) (replies_lines two)
      ∙ ap (with_lines old.text) (sym (flat_map-append line_of one two));
  limited = then.limited ∙ ap (λ (b : Bool). b || any_limited two) first.limited
      ∙ or_assoc old.limited (any_limited one) (any_limited two)
      ∙ ap (λ (b : Bool). old.limited || b) (sym (any-append limit_of one two));
}

pub one_noted : (reply : Replied) (old new : Transcript) → NotesReply reply.line.session reply.said old new → NotesReplies (reply ∷ []) old new
one_noted reply old new noted = record {
  text = noted.text ∙ ap (with_lines old.text) (sym (append-nil (line_of reply)));
  limited = noted.limited ∙ ap (λ (b : Bool). old.limited || b) (sym (or_none (limit_of reply)));
}

-- What was said to the lines of one session, in a transcript of its own, is joined to that of all.
pub joined_noted : (replies : List Replied) (old own : Transcript) → NotesReplies replies (blank_of old) own → NotesReplies replies old (with_told old own)
joined_noted replies old own noted = record {
  text = ap (with_text old.text) noted.text ∙ joined_lines old.text (replies_lines replies);
  limited = ap (λ (b : Bool). old.limited || b) noted.limited;
}

-- A transcript keeps lines where it did before.
pub blank_same : (replies : List Replied) (old new : Transcript) → NotesReplies replies old new → blank_of new ≡ blank_of old
blank_same replies old new noted = ap (λ (t : Option (List ℕ)). record { text = no_text t; limited = false }) noted.text ∙ same old.text
  where
    same : (t : Option (List ℕ)) → record { text = no_text (with_lines t (replies_lines replies)); limited = false } ≡ blank_of (record { text = t; limited = false })
    same None = refl
    same (Some text) = refl

-- ---- rounds

pub no_rounds_noted : (told : Transcript) → NotesRounds [] told told
no_rounds_noted told = record { text = with_none told.text; limited = sym (or_none told.limited) }

pub rounds_noted_then : (one two : List (List Replied)) (old mid new : Transcript) → NotesRounds one old mid → NotesRounds two mid new
    → NotesRounds (one ++ two) old new
rounds_noted_then one two old mid new first then = record {
  text = then.text ∙ ap (λ (t : Option (List ℕ)). with_lines t (replies_text two)) first.text
      ∙ with_both old.text (replies_text one) (replies_text two)
      ∙ ap (with_lines old.text) (sym (flat_map-append replies_lines one two));
  limited = then.limited ∙ ap (λ (b : Bool). b || limit_told two) first.limited
      ∙ or_assoc old.limited (limit_told one) (limit_told two)
      ∙ ap (λ (b : Bool). old.limited || b) (sym (any-append any_limited one two));
}

pub one_round_noted : (replies : List Replied) (old new : Transcript) → NotesReplies replies old new → NotesRounds (replies ∷ []) old new
one_round_noted replies old new noted = record {
  text = noted.text ∙ ap (with_lines old.text) (sym (append-nil (replies_lines replies)));
  limited = noted.limited ∙ ap (λ (b : Bool). old.limited || b) (sym (or_none (any_limited replies)));
}
