-- What players have played, round by round.
use Rattle.std.proofs.Common.{◌≡◌, ℕ, List, [], ◌∷◌, ◌++◌, length, refl, sym, ◌∙◌, subst, append_assoc}
use Rattle.std.proofs.lemmas.List.{append-nil}
use Rattle.session_replies.specs.Rounds.{LinesAreOfSome, NameSessions}
use Rattle.session_replies.specs.declared.script.Round.{Round}
use Rattle.session_replies.specs.Legal.{Replied}
use Rattle.commit_pipeline.specs.Openings.{Opening}
use Rattle.commit_pipeline.specs.declared.standing.Standing.{Standing}
use Rattle.commit_pipeline.specs.Parts.{AreNew}
use Rattle.commit_pipeline.specs.Meeting.{HaveMet}
use Rattle.session_rounds.specs.declared.transcript.Transcript.{Transcript}
use Rattle.session_rounds.specs.Playing.{PlaysRound, PlaysRounds, RoundPlayed}
use Rattle.session_rounds.specs.Players.{HavePlayed, PlayMore, PlayNoted}
use Rattle.session_rounds.proofs.Noted.{one_round_noted, no_rounds_noted, rounds_noted_then}

-- a round more is played
plays_push : (opening : Opening) (front : List Round) (replies : List (List Replied)) (round : Round) (own : List Replied)
    (ss mid ended met : List Standing) → PlaysRounds opening ss front replies mid → PlaysRound opening round.lines mid own ended → HaveMet ended met
    → PlaysRounds opening ss (front ++ round ∷ []) (replies ++ own ∷ []) met
unfolding PlaysRounds
plays_push opening [] [] round own ss mid ended met so plays meets =
    (ended, met, subst (λ (s : List Standing). PlaysRound opening round.lines s own ended) so plays, meets, refl)
plays_push opening [] (r ∷ replies) round own ss mid ended met so plays meets = absurd so
plays_push opening (r ∷ front) [] round own ss mid ended met so plays meets = absurd so
plays_push opening (r ∷ front) (x ∷ replies) round own ss mid ended met so plays meets =
    (so.0, so.1, so.2, so.3, plays_push opening front replies round own so.1 mid ended met so.4 plays meets)

-- its lines are of the sessions too
named_push : (count : ℕ) (rounds : List Round) (round : Round) → NameSessions count rounds → LinesAreOfSome count round.lines
    → NameSessions count (rounds ++ round ∷ [])
named_push count [] round all one = (one, tt)
named_push count (r ∷ rounds) round all one = (all.0, named_push count rounds round all.1 one)

pub none_played : (opening : Opening) (ss : List Standing) → AreNew (length ss) ss → HavePlayed opening [] [] ss
unfolding PlaysRounds
none_played opening ss new = record { first = ss; new = new; named = tt; plays = refl }

round_more : (opening : Opening) (round : Round) (own : List Replied) (ss mid met : List Standing) → LinesAreOfSome (length ss) round.lines
    → PlaysRound opening round.lines ss own mid → HaveMet mid met → PlayMore opening (round ∷ []) (own ∷ []) ss met
round_more opening round own ss mid met named played meets = record {
  all = count;
  after = λ rounds replies had. record {
    first = had.first;
    new = subst (λ (n : ℕ). AreNew n had.first) (sym count) had.new;
    named = subst (λ (n : ℕ). NameSessions n (rounds ++ round ∷ [])) (sym count) (named_push (length ss) rounds round had.named named);
    plays = plays_push opening rounds replies round own had.first ss mid met had.plays played meets;
  };
}
  where
    count : length met ≡ length ss
    count = meets.stay.all ∙ played.all

pub round_played : (opening : Opening) (round : Round) (ss mid met : List Standing) (old new : Transcript) → LinesAreOfSome (length ss) round.lines
    → RoundPlayed opening round.lines ss mid old new → HaveMet mid met → PlayNoted opening (round ∷ []) ss met old new
round_played opening round ss mid met old new named played meets = record {
  own = played.replies ∷ [];
  plays = round_more opening round played.replies ss mid met named played.plays meets;
  notes = one_round_noted played.replies old new played.notes;
}

-- ---- rounds after others

pub none_more : (opening : Opening) (ss : List Standing) → PlayMore opening [] [] ss ss
none_more opening ss = record {
  all = refl;
  after = λ rounds replies had. subst (λ (r : List Round). HavePlayed opening r (replies ++ []) ss) (sym (append-nil rounds))
      (subst (λ (a : List (List Replied)). HavePlayed opening rounds a ss) (sym (append-nil replies)) had);
}

pub more_then : (opening : Opening) (one two : List Round) (own their : List (List Replied)) (ss mid ss' : List Standing)
    → PlayMore opening one own ss mid → PlayMore opening two their mid ss' → PlayMore opening (one ++ two) (own ++ their) ss ss'
more_then opening one two own their ss mid ss' first then = record {
  all = then.all ∙ first.all;
  after = λ rounds replies had.
      subst (λ (r : List Round). HavePlayed opening r (replies ++ (own ++ their)) ss') (append_assoc rounds one two)
      (subst (λ (a : List (List Replied)). HavePlayed opening ((rounds ++ one) ++ two) a ss') (append_assoc replies own their)
      (then.after (rounds ++ one) (replies ++ own) (first.after rounds replies had)));
}

-- ---- rounds that are noted

pub none_noted : (opening : Opening) (ss : List Standing) (told : Transcript) → PlayNoted opening [] ss ss told told
none_noted opening ss told = record { own = []; plays = none_more opening ss; notes = no_rounds_noted told }

pub noted_then : (opening : Opening) (one two : List Round) (ss mid ss' : List Standing) (old told new : Transcript)
    → PlayNoted opening one ss mid old told → PlayNoted opening two mid ss' told new → PlayNoted opening (one ++ two) ss ss' old new
noted_then opening one two ss mid ss' old told new first then = record {
  own = first.own ++ then.own;
  plays = more_then opening one two first.own then.own ss mid ss' first.plays then.plays;
  notes = rounds_noted_then first.own then.own old told new first.notes then.notes;
}
