-- The rounds so far with what was said, and those that are left.
use Rattle.std.proofs.Common.{◌≡◌, ◌∙◌, ◌||◌, ℕ, Bool, List, [], ◌∷◌, ◌++◌, length, refl, sym, ap, subst, append_assoc}
use Rattle.std.proofs.lemmas.List.{append-nil}
use Rattle.session_replies.specs.Rounds.{LinesAreOfSome, NameSessions}
use Rattle.session_replies.specs.declared.script.Round.{Round}
use Rattle.session_replies.specs.Theorems.{limit_told}
use Rattle.commit_pipeline.specs.Openings.{Opening}
use Rattle.commit_pipeline.specs.declared.standing.Standing.{Standing}
use Rattle.session_rounds.specs.declared.transcript.Transcript.{Transcript}
use Rattle.session_rounds.specs.Transcripts.{IsSilentTranscript}
use Rattle.session_rounds.specs.Players.{AllowsPolls, PlayNoted}
use Rattle.session_rounds.proofs.Laws.{none_noted, noted_then}
use Rattle.script_runner.specs.Rounds.{AllowsStalls}
use Rattle.script_runner.specs.Works.{AnswersLoad}

pub record RoundsSoFar (opening : Opening) (ss : List Standing) (all rest : List Round) (mid : List Standing) (before after : Transcript)
    : Type 0 where
  pub front : List Round
  pub is : front ++ rest ≡ all
  pub named : NameSessions (length ss) rest
  pub so : PlayNoted opening front ss mid before after

pub no_round_yet : (opening : Opening) (ss : List Standing) (all : List Round) (transcript : Transcript) → NameSessions (length ss) all
    → RoundsSoFar opening ss all all ss transcript transcript
no_round_yet opening ss all transcript named = record {
  front = [];
  is = refl;
  named = named;
  so = none_noted opening ss transcript;
}

-- what the next round may stall, and those after it
pub stalls_next : (opening : Opening) (old_rest rest : List Round) (round : Round) → AllowsStalls opening old_rest → old_rest ≡ round ∷ rest
    → AllowsPolls opening round.stalls × AllowsStalls opening rest
stalls_next opening old_rest rest round may e = let all : AllowsStalls opening (round ∷ rest) = subst (AllowsStalls opening) e may in (all.0, all.1)

module _ (opening : Opening) (ss : List Standing) (all old_rest rest : List Round) (round : Round) (mid : List Standing) (before between : Transcript)
    (so : RoundsSoFar opening ss all old_rest mid before between) (e : old_rest ≡ round ∷ rest) where
  -- what the next round asks for
  pub next_named : LinesAreOfSome (length mid) round.lines
  next_named =
      let named : NameSessions (length ss) (round ∷ rest) = subst (NameSessions (length ss)) e so.named in
      subst (λ (n : ℕ). LinesAreOfSome n round.lines) (sym so.so.plays.all) named.0

  -- it is played
  pub round_more : (met : List Standing) (after : Transcript) → PlayNoted opening (round ∷ []) mid met between after
      → RoundsSoFar opening ss all rest met before after
  round_more met after noted =
      let named : NameSessions (length ss) (round ∷ rest) = subst (NameSessions (length ss)) e so.named in
      record {
        front = so.front ++ round ∷ [];
        is = append_assoc so.front (round ∷ []) rest ∙ ap (λ (l : List Round). so.front ++ l) (sym e) ∙ so.is;
        named = named.1;
        so = noted_then opening so.front (round ∷ []) ss mid met before between after so.so noted;
      }

pub all_played : (opening : Opening) (ss : List Standing) (all rest : List Round) (mid : List Standing) (before after : Transcript)
    → RoundsSoFar opening ss all rest mid before after → rest ≡ [] → PlayNoted opening all ss mid before after
all_played opening ss all rest mid before after so none =
    subst (λ (l : List Round). PlayNoted opening l ss mid before after)
    (sym (append-nil so.front) ∙ ap (λ (l : List Round). so.front ++ l) (sym none) ∙ so.is) so.so

-- a load's transcript keeps no line, and tells whether a reply told of a limit
pub all_loaded : (opening : Opening) (ss : List Standing) (all rest : List Round) (mid : List Standing) (before after : Transcript)
    → RoundsSoFar opening ss all rest mid before after → IsSilentTranscript before → rest ≡ [] → AnswersLoad opening all ss mid after.limited
all_loaded opening ss all rest mid before after so silent none =
    let ran = all_played opening ss all rest mid before after so none in
    record {
      own = ran.own;
      plays = ran.plays;
      limited_is = ran.notes.limited ∙ ap (λ (b : Bool). b || limit_told ran.own) silent.limited;
    }
