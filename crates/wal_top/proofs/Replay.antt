-- What a replay says by what it took of its source, and that it says what has to come.
use Rattle.std.proofs.Common.{◌≡◌, ℕ, ◌≤◌, List, [], ◌++◌, length, Option, Some, None, refl, sym, ap, ◌∙◌, arith, subst}
use Rattle.std.specs.Prelude.{IfSome}
use Rattle.std.proofs.lemmas.List.{append-nil, length-append}
use Rattle.wal_base.specs.Told.{told_front}
use Rattle.session_replies.specs.declared.script.Script.{Script}
use Rattle.line_words.specs.Words.{lines_of}
use Rattle.session_script.specs.Script.{IsScript, IsFirstBad}
use Rattle.session_script.proofs.Laws.{one_script, none_bad}
use Rattle.script_runner.specs.declared.work.Work.TheVariants as works
use Rattle.wal_top.specs.declared.status.Status.{Status}
use Rattle.wal_top.specs.declared.status.Status.TheVariants as statuses
use Rattle.wal_top.specs.declared.status.Status.TheVariants.{Done, Usage, Read, Write, Disk, Refused, NoMemory, Limit}
use Rattle.wal_top.specs.Call.{Change, Invocation, Stays, HasCalmSource}
use Rattle.wal_top.specs.Reading.{ReadsWhole}
use Rattle.wal_top.specs.Replay.{replay_text, ReadsScript, RefusesScript, too_long, bad_line, IsNoScript, longer, bad, TellsScript, TellsNoScript}
use Rattle.wal_top.specs.Replay.{SaysReplay, ReplayIsDue, LeavesReplay, SaysOfSource}
use Rattle.wal_top.specs.Work.{SaysWork, WorkIsDue}
use Rattle.wal_top.specs.Rightly.{IsOfCommand, IsTheDue}
use Rattle.wal_top.proofs.AddsPiece.{took_none}
use Rattle.wal_top.proofs.Untouched.{untouched_polls, untouched_wal}
use Rattle.wal_top.proofs.Work.{work_due}

-- ---- a source that tells its script

same : {a b : List ℕ} → Some a ≡ Some b → a ≡ b
same e = cc

pub one_whole : (bytes other : List ℕ) (after : Option (List ℕ)) → told_front other after ≡ Some bytes → IfSome after (λ rest. rest ≡ []) → other ≡ bytes
one_whole bytes other None e h = absurd cc
one_whole bytes other (Some rest) e h = sym (append-nil other) ∙ ap (λ (t : List ℕ). other ++ t) (sym h) ∙ same e

pub not_longer : (bytes front : List ℕ) (after : Option (List ℕ)) → told_front front after ≡ Some bytes → length front ≤ length bytes
not_longer bytes front None e = absurd cc
not_longer bytes front (Some rest) e = omega (arith, ap length (same e), length-append front rest)

-- what was read whole is what was told
pub read_is_told : (before after : Option (List ℕ)) (bytes told : List ℕ) → ReadsWhole before bytes after → before ≡ Some told → bytes ≡ told
read_is_told before after bytes told whole_read told_is = one_whole told bytes after (sym whole_read.taken ∙ told_is) whole_read.at_end

-- An accepted script is not refused.
not_refused : (left : Change (Option (List ℕ))) (text : List ℕ) → TellsScript left.before → RefusesScript left text → ⊥
not_refused left _ told (too_long more) = omega (
  arith,
  more.past,
  told.within,
  not_longer told.bytes more.front left.after (sym more.taken ∙ told.told_is),
)
not_refused left _ told (bad_line number b) =
    let same_bytes : b.bytes ≡ told.bytes = read_is_told left.before left.after b.bytes told.bytes b.whole told.told_is in
    none_bad (lines_of told.bytes) told.script number told.is (subst (λ (t : List ℕ). IsFirstBad (lines_of t) number) same_bytes b.bad)

-- A script that is too long, or has a bad line, is not accepted.
not_accepted : (before after : Option (List ℕ)) (script : Script) → TellsNoScript before → ReadsScript before script after → ⊥
not_accepted before after script told a =
    let same_bytes : a.bytes ≡ told.bytes = read_is_told before after a.bytes told.bytes a.whole told.told_is in
    wrong same_bytes told.wrong
  where
    wrong : a.bytes ≡ told.bytes → IsNoScript told.bytes → ⊥
    wrong e (longer past) = omega (arith, past, a.within, ap length e)
    wrong e (bad number short b) = none_bad (lines_of a.bytes) script number a.is (subst (λ (t : List ℕ). IsFirstBad (lines_of t) number) (sym e) b)

-- the script that was read is the one that was told
script_told : (before after : Option (List ℕ)) (script : Script) → (told : TellsScript before) → ReadsScript before script after → script ≡ told.script
script_told before after script told a =
    let same_bytes : a.bytes ≡ told.bytes = read_is_told before after a.bytes told.bytes a.whole told.told_is in
    one_script (lines_of told.bytes) script told.script (subst (λ (t : List ℕ). IsScript t script) same_bytes a.is) told.is

module _ (threshold : ℕ) (c : Invocation) (text : List ℕ) where
  -- ---- what is said

  -- the accepted script, with what its work says
  abbrev pub Ran : Status → Type 0
  Ran status = (script : Script) × ReadsScript c.left.before script c.left.after × SaysWork (works.Script script) threshold replay_text c.tells c.disk status text

  pub says_ran : (status : Status) → Ran status → SaysReplay threshold c status text
  says_ran Done h = h
  says_ran Usage h = h
  says_ran statuses.Script (script, reads, h) = absurd h
  says_ran Read (script, reads, h) = absurd h
  says_ran Write h = h
  says_ran Disk h = h
  says_ran Refused h = h
  says_ran NoMemory h = h
  says_ran Limit h = h

  pub says_unread : Stays c.disk → (status : Status) → SaysOfSource c.left c.source_faults status text → SaysReplay threshold c status text
  says_unread stays Done h = absurd h
  says_unread stays Usage h = absurd h
  says_unread stays statuses.Script h = (h, stays)
  says_unread stays Read (rose, told) = (rose, told, stays)
  says_unread stays Write h = absurd h
  says_unread stays Disk h = absurd h
  says_unread stays Refused h = absurd h
  says_unread stays NoMemory h = absurd h
  says_unread stays Limit h = absurd h

  pub replay_told : (said : Status) → SaysReplay threshold c said text → IsOfCommand said
  replay_told Done h = tt
  replay_told Usage h = tt
  replay_told statuses.Script h = tt
  replay_told Read h = tt
  replay_told Write (script, reads, h) = h
  replay_told Disk h = tt
  replay_told Refused h = tt
  replay_told NoMemory (script, reads, h) = h
  replay_told Limit h = tt

  -- ---- what has to come

  no_script_due : TellsNoScript c.left.before → HasCalmSource c → (said : Status) → SaysReplay threshold c said text → statuses.Script ≡ said
  no_script_due told calm Done (script, reads, h) = absurd (not_accepted c.left.before c.left.after script told reads)
  no_script_due told calm Usage (script, reads, h) = absurd h
  no_script_due told calm statuses.Script h = refl
  no_script_due told calm Read h = absurd (calm h.0)
  no_script_due told calm Write (script, reads, h) = absurd h
  no_script_due told calm Disk (script, reads, h) = absurd (not_accepted c.left.before c.left.after script told reads)
  no_script_due told calm Refused (script, reads, h) = absurd (not_accepted c.left.before c.left.after script told reads)
  no_script_due told calm NoMemory (script, reads, h) = absurd h
  no_script_due told calm Limit (script, reads, h) = absurd (not_accepted c.left.before c.left.after script told reads)

  module _ (told : TellsScript c.left.before) (calm : HasCalmSource c) (due : Status) (is_due : WorkIsDue (works.Script told.script) c.tells c.disk due) where
    ran_due : (said : Status) → Ran said → due ≡ said
    ran_due said (script, reads, h) = work_due (works.Script told.script) threshold replay_text c.tells c.disk text said
        (subst (λ (s : Script). SaysWork (works.Script s) threshold replay_text c.tells c.disk said text)
        (script_told c.left.before c.left.after script told reads) h) due is_due

    script_due : (said : Status) → SaysReplay threshold c said text → due ≡ said
    script_due Done h = ran_due Done h
    script_due Usage h = ran_due Usage h
    script_due statuses.Script h = absurd (not_refused c.left text told h.0)
    script_due Read h = absurd (calm h.0)
    script_due Write h = ran_due Write h
    script_due Disk h = ran_due Disk h
    script_due Refused h = ran_due Refused h
    script_due NoMemory h = ran_due NoMemory h
    script_due Limit h = ran_due Limit h

  pub replay_due : (said : Status) → SaysReplay threshold c said text → IsTheDue (ReplayIsDue c) said
  replay_due said h Done (told, d, calm) = script_due told calm Done d said h
  replay_due said h Usage (told, d, calm) = absurd d
  replay_due said h statuses.Script (told, calm) = no_script_due told calm said h
  replay_due said h Read (told, d, calm) = absurd d
  replay_due said h Write (told, d, calm) = absurd d
  replay_due said h Disk (told, d, calm) = absurd d
  replay_due said h Refused (told, d, calm) = script_due told calm Refused d said h
  replay_due said h NoMemory (told, d, calm) = absurd d
  replay_due said h Limit (told, d, calm) = script_due told calm Limit d said h

-- ---- what is left where nothing was read or done

pub replay_unrun : (c : Invocation) → Stays c.left → Stays c.disk → LeavesReplay c
replay_unrun c unread untouched = record {
  took = took_none c.left.before c.left.after _ unread;
  polls = λ none. untouched_polls c.tells c.disk untouched;
  others = untouched_wal c.tells c.disk untouched;
}
