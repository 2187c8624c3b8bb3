-- A draft of what is said, and of one thing more.
use Rattle.std.proofs.Common.{◌≡◌, ◌≢◌, ℕ, ◌+◌, false, List, [], ◌∷◌, ◌++◌, map, refl, sym, ap, ◌∙◌, arith, append_assoc}
use Rattle.std.specs.Prelude.{All, max}
use Rattle.std.specs.List.{slice_split, filter_map}
use Rattle.std.proofs.lemmas.List.{append-nil, map-append}
use Rattle.std.proofs.lemmas.List.Elements.{All-nil, All-push, filter_map-append}
use Rattle.std.proofs.lemmas.List.Sums.{fold-append}
use Rattle.std.proofs.lemmas.List.Splits.{slice_split_at, slice_split_none}
use Rattle.session_script.specs.declared.saying.Saying.{Saying}
use Rattle.session_script.specs.declared.saying.Saying.TheVariants as sayings
use Rattle.session_script.specs.declared.reading.Draft.{Draft}
use Rattle.session_script.specs.Script.{ends_round, line_said, stall_said, round_of, rounds_of, sessions_named, sessions_of}
use Rattle.session_script.specs.Drafts.{empty_draft, with_saying}

-- What is said ends in this part of a round, with these parts before it.
pub record EndsIn (said : List Saying) (front : List (List Saying)) (last : List Saying) : Type 0 where
  pub parts : (more : List Saying) → slice_split ends_round (said ++ more) ≡ front ++ slice_split ends_round (last ++ more)
  pub uncut : All (λ saying. ends_round saying ≡ false) last

goes_on : (said last : List Saying) (front : List (List Saying)) (saying : Saying) → ends_round saying ≡ false → EndsIn said front last
    → EndsIn (said ++ saying ∷ []) front (last ++ saying ∷ [])
goes_on said last front saying e ends = record {
  parts = λ more.
      ap (slice_split ends_round) (append_assoc said (saying ∷ []) more) ∙ ends.parts (saying ∷ more)
      ∙ ap (λ (l : List Saying). front ++ slice_split ends_round l) (sym (append_assoc last (saying ∷ []) more));
  uncut = All-push (λ s. ends_round s ≡ false) last saying ends.uncut e;
}

cut_off : (said last : List Saying) (front : List (List Saying)) → EndsIn said front last → EndsIn (said ++ sayings.EndsRound ∷ []) (front ++ last ∷ []) []
cut_off said last front ends = record {
  parts = λ more.
      ap (slice_split ends_round) (append_assoc said (sayings.EndsRound ∷ []) more) ∙ ends.parts (sayings.EndsRound ∷ more)
      ∙ ap (λ (p : List (List Saying)). front ++ p) (slice_split_at ends_round last sayings.EndsRound more ends.uncut refl)
      ∙ sym (append_assoc front (last ∷ []) (slice_split ends_round more));
  uncut = All-nil (λ s. ends_round s ≡ false);
}

at_end : (said last : List Saying) (front : List (List Saying)) → EndsIn said front last → slice_split ends_round said ≡ front ++ last ∷ []
at_end said last front ends =
    ap (slice_split ends_round) (sym (append-nil said)) ∙ ends.parts []
    ∙ ap (λ (l : List Saying). front ++ slice_split ends_round l) (append-nil last)
    ∙ ap (λ (p : List (List Saying)). front ++ p) (slice_split_none ends_round last ends.uncut)

-- The draft is that of what is said.
pub record IsDraftOf (said : List Saying) (draft : Draft) : Type 0 where
  pub front : List (List Saying)
  pub last : List Saying
  pub ends : EndsIn said front last
  pub ended : draft.ended ≡ map round_of front
  pub round : draft.round ≡ round_of last
  pub sessions : draft.sessions ≡ sessions_of said

pub draft_of_none : IsDraftOf [] empty_draft
unfolding sessions_of
draft_of_none = record {
  front = [];
  last = [];
  ends = record {
    parts = λ more. refl;
    uncut = All-nil
        (λ s. ends_round s ≡ false);
  };
  ended = refl;
  round = refl;
  sessions = refl;
}

named_more : (said : List Saying) (saying : Saying) → sessions_of (said ++ saying ∷ []) ≡ max (sessions_of said) (sessions_named saying)
unfolding sessions_of
named_more said saying = fold-append (λ most s. max most (sessions_named s)) 1 said (saying ∷ [])

module _ (said : List Saying) (draft : Draft) (d : IsDraftOf said draft) where
  pub draft_more : (saying : Saying) → saying ≢ sayings.Halts → IsDraftOf (said ++ saying ∷ []) (with_saying draft saying)
  draft_more (sayings.Does line) other = record {
    front = d.front;
    last = d.last ++ sayings.Does line ∷ [];
    ends = goes_on said d.last d.front (sayings.Does line) refl d.ends;
    ended = d.ended;
    round = λ i. record {
      stalls = (ap (λ r. r.stalls) d.round ∙ sym (append-nil (filter_map stall_said d.last))
          ∙ sym (filter_map-append stall_said d.last (sayings.Does line ∷ []))) i;
      lines = (ap (λ r. r.lines ++ line ∷ []) d.round ∙ sym (filter_map-append line_said d.last (sayings.Does line ∷ []))) i;
    };
    sessions = ap (λ (n : ℕ). max n (line.session + 1)) d.sessions ∙ sym (named_more said (sayings.Does line));
  }
  draft_more (sayings.Stalls line) other = record {
    front = d.front;
    last = d.last ++ sayings.Stalls line ∷ [];
    ends = goes_on said d.last d.front (sayings.Stalls line) refl d.ends;
    ended = d.ended;
    round = λ i. record {
      stalls = (ap (λ r. r.stalls ++ line ∷ []) d.round ∙ sym (filter_map-append stall_said d.last (sayings.Stalls line ∷ []))) i;
      lines = (ap (λ r. r.lines) d.round ∙ sym (append-nil (filter_map line_said d.last))
          ∙ sym (filter_map-append line_said d.last (sayings.Stalls line ∷ []))) i;
    };
    sessions = omega (arith, d.sessions, named_more said (sayings.Stalls line));
  }
  draft_more sayings.EndsRound other = record {
    front = d.front ++ d.last ∷ [];
    last = [];
    ends = cut_off said d.last d.front d.ends;
    ended = λ i. (ap (λ l. l ++ draft.round ∷ []) d.ended ∙ ap (λ r. map round_of d.front ++ r ∷ []) d.round
        ∙ sym (map-append round_of d.front (d.last ∷ []))) i;
    round = refl;
    sessions = omega (arith, d.sessions, named_more said sayings.EndsRound);
  }
  draft_more sayings.Halts other = absurd (other refl)

  pub its_rounds : rounds_of said ≡ draft.ended ++ draft.round ∷ []
  unfolding rounds_of
  its_rounds =
      ap (map round_of) (at_end said d.last d.front d.ends) ∙ map-append round_of d.front (d.last ∷ [])
      ∙ ap (λ l. l ++ round_of d.last ∷ []) (sym d.ended) ∙ ap (λ r. draft.ended ++ r ∷ []) (sym d.round)
