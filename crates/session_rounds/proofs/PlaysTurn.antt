-- The lines of a turn, answered one after another.
use Rattle.std.specs.Prelude.{◌≡◌, List, [], ◌∷◌, ◌++◌, map, Option, IfSome, Some}
use Rattle.std.proofs.Common.{refl, sym, ap, ◌∙◌, subst, append_assoc}
use Rattle.std.proofs.lemmas.List.{map-append, append-nil}
use Rattle.session_replies.specs.declared.script.Line.{Line}
use Rattle.session_replies.specs.declared.replies.Said.{Said}
use Rattle.session_replies.specs.Legal.{Replied}
use Rattle.commit_pipeline.specs.Openings.{Opening}
use Rattle.commit_pipeline.specs.declared.standing.Standing.{Standing}
use Rattle.session_rounds.specs.declared.transcript.Transcript.{Transcript}
use Rattle.session_rounds.specs.declared.course.Course.{Course}
use Rattle.session_rounds.specs.Acts.{Does, DoesLines}
use Rattle.session_rounds.specs.Transcripts.{NotesReply, NotesReplies}
use Rattle.session_rounds.specs.Turns.{with_line, PlaysTurn}
use Rattle.session_rounds.proofs.Noted.{none_noted, one_noted, replies_then}

-- A line is done after others.
does_push : (opening : Opening) (replies : List Replied) (reply : Replied) (s mid s' : Standing) → DoesLines opening s replies mid
    → Does opening mid reply.line.act reply.said s' → DoesLines opening s (replies ++ reply ∷ []) s'
unfolding DoesLines
does_push opening [] reply s mid s' done does = (s', subst (λ (m : Standing). Does opening m reply.line.act reply.said s') done does, refl)
does_push opening (r ∷ replies) reply s mid s' done does = (done.0, done.1, does_push opening replies reply done.0 mid s' done.2 does)

-- The lines of a turn up to those that are left are answered.
pub record AnsweredSoFar (opening : Opening) (t : Course) (left : List Line) (told : Transcript) (s : Standing) : Type 0 where
  pub replies : List Replied
  pub lines_are : map (λ (r : Replied). r.line) replies ++ left ≡ t.lines
  pub notes : NotesReplies replies t.told told
  pub does : DoesLines opening t.session replies s

-- None is yet.
pub none_answered : (opening : Opening) (t : Course) → AnsweredSoFar opening t t.lines t.told t.session
unfolding DoesLines
none_answered opening t = record { replies = []; lines_are = refl; notes = none_noted t.told; does = refl }

-- One more is.
pub one_more : (opening : Opening) (t : Course) (left : List Line) (line : Line) (said : Said) (old new : Transcript) (s s' : Standing)
    → AnsweredSoFar opening t (line ∷ left) old s → Does opening s line.act said s'
    → NotesReply line.session said old new → AnsweredSoFar opening t left new s'
one_more opening t left line said old new s s' so does noted =
    let reply : Replied = record { line = line; said = said } in record {
      replies = so.replies ++ reply ∷ [];
      lines_are = ap (λ (l : List Line). l ++ left) (map-append (λ (r : Replied). r.line) so.replies (reply ∷ []))
          ∙ append_assoc (map (λ (r : Replied). r.line) so.replies) (line ∷ []) left ∙ so.lines_are;
      notes = replies_then so.replies (reply ∷ []) t.told old new so.notes (one_noted reply old new noted);
      does = does_push opening so.replies reply t.session s s' so.does does;
    }

-- The next line is taken.
pub taken : (opening : Opening) (t old new own : Course) (next : Option Line) (line : Line) → AnsweredSoFar opening t old.lines old.told old.session
    → IfSome next (λ l. old ≡ with_line l new) → next ≡ Some line → own ≡ new
    → AnsweredSoFar opening t (line ∷ own.lines) own.told own.session
taken opening t old new own next line so comes is same =
    subst (λ (u : Course). AnsweredSoFar opening t (line ∷ u.lines) u.told u.session) (sym same)
    (subst (λ (u : Course). AnsweredSoFar opening t u.lines u.told u.session)
    (subst (λ (o : Option Line). IfSome o (λ l. old ≡ with_line l new)) is comes) so)

-- All are.
pub all_answered : (opening : Opening) (t t' : Course) → AnsweredSoFar opening t t'.lines t'.told t'.session → t'.lines ≡ []
    → PlaysTurn opening t t'
all_answered opening t t' so none = record {
  replies = so.replies;
  lines_are = sym (append-nil (map (λ (r : Replied). r.line) so.replies))
      ∙ ap (λ (l : List Line). map (λ (r : Replied). r.line) so.replies ++ l) (sym none) ∙ so.lines_are;
  notes = so.notes;
  does = so.does;
}
