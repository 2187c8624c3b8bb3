-- What work says by what it came to, and that it says what has to come.
use Rattle.std.proofs.Common.{◌≡◌, ◌⊎◌, inl, inr, ℕ, ◌<◌, ◌≤◌, Bool, true, false, List, Option, Result, Ok, Err, refl, sym, ap, ◌∙◌, arith, subst}
use Rattle.std.specs.Prelude.{IfOk, IsOkAnd}
use Rattle.batch_repr.specs.declared.batch.Batch.{Batch}
use Rattle.batch_repr.specs.Batches.{end_after}
use Rattle.disk_face.specs.declared.names.TheConstants.{WAL_MAX}
use Rattle.disk_face.specs.View.{DiskView}
use Rattle.disk_face.specs.Image.{directories}
use Rattle.wal_recovery.specs.declared.reports.Mode.TheVariants.{Strict}
use Rattle.flush_table.specs.Stores.{Used, next_in}
use Rattle.flush_table.proofs.Laws.{number_used, one_next_wal, store_once, store_or_refused}
use Rattle.commit_pipeline.specs.Openings.{first_number}
use Rattle.session_replies.specs.Theorems.{limit_told, AsksTooMuch, IsLimitedExactly}
use Rattle.script_runner.specs.declared.run.Outcome.{Outcome}
use Rattle.script_runner.specs.declared.work.Work.{Work}
use Rattle.script_runner.specs.Works.{work_rounds}
use Rattle.wal_top.specs.declared.status.Status.{Status}
use Rattle.wal_top.specs.declared.status.Status.TheVariants.{Done, Usage, Script, Read, Write, Disk, Refused, NoMemory, Limit}
use Rattle.wal_top.specs.declared.said.Said.{Said}
use Rattle.wal_top.specs.declared.working.Worked.{Worked}
use Rattle.wal_top.specs.declared.working.Worked.TheVariants as comes
use Rattle.wal_top.specs.Call.{Change, IsCalmDisk}
use Rattle.wal_top.specs.Recovery.{FailsRecovery, RefusesDirectories, IsToRefuse, SaysUnrecovered, next_of}
use Rattle.wal_top.specs.Work.{RunsOverDisk, status_by, DoesWork, LacksWal, SaysWork, MayBegin, begins_at, AsksEnough, WorkIsDue}
use Rattle.wal_top.specs.Worked.{SaysUnbegun, WorkComesTo, TellsWorked}
use Rattle.wal_top.specs.Rightly.{IsOfCommand, IsTheDue}
use Rattle.wal_top.proofs.Saying.{ok_map, as_told}
use Rattle.wal_top.proofs.Recovery.{unrecovered_in, not_read}

-- ---- by which status a journal has died, or a limit was met

died_of : (died limited : Bool) → Disk ≡ status_by died limited → died ≡ true
died_of true limited e = refl
died_of false true e = absurd cc
died_of false false e = absurd cc

limited_of : (died limited : Bool) → Limit ≡ status_by died limited → limited ≡ true
limited_of true limited e = absurd cc
limited_of false true e = refl
limited_of false false e = absurd cc

done_of : (died limited : Bool) → Done ≡ status_by died limited → (died ≡ false) × (limited ≡ false)
done_of true limited e = absurd cc
done_of false true e = absurd cc
done_of false false e = (refl, refl)

-- directories that do not recover are why work is not begun
pub unrecovered_unbegun : (tells : Bool) (disk : Change DiskView) (text : List ℕ) (status : Status)
    → SaysUnrecovered Strict tells disk status text → SaysUnbegun tells disk status text
unrecovered_unbegun tells disk text = unrecovered_in Strict tells disk text (λ (s : Status). SaysUnbegun tells disk s text) (λ f. f) (λ r. r)

module _ (work : Work) (threshold : ℕ) (print : Outcome → List ℕ) (tells : Bool) (disk : Change DiskView) (text : List ℕ) where
  -- ---- what is said

  done_says : (outcome : Outcome) → RunsOverDisk work threshold tells disk outcome → text ≡ print outcome
      → (died : Bool) → outcome.end.died ≡ died → (limited : Bool) → outcome.told.limited ≡ limited
      → SaysWork work threshold print tells disk (status_by died limited) text
  done_says outcome' done' told true e limited l = inl (record { outcome = outcome'; done = done'; status_is = rw e refl; text_is = told })
  done_says outcome' done' told false e true l = inl (record { outcome = outcome'; done = done'; status_is = rw (e, l) refl; text_is = told })
  done_says outcome' done' told false e false l = record { outcome = outcome'; done = done'; status_is = rw (e, l) refl; text_is = told }

  unbegun_says : (status : Status) → SaysUnbegun tells disk status text → SaysWork work threshold print tells disk status text
  unbegun_says Done h = absurd h
  unbegun_says Usage h = absurd h
  unbegun_says Script h = absurd h
  unbegun_says Read h = absurd h
  unbegun_says Write h = absurd h
  unbegun_says Disk h = inr h
  unbegun_says Refused h = h
  unbegun_says NoMemory h = absurd h
  unbegun_says Limit h = inr h

  pub says_work : (worked : Worked) (status : Status) → WorkComesTo work threshold tells disk worked → TellsWorked print worked status text
      → SaysWork work threshold print tells disk status text
  says_work (comes.Done outcome) status done (status_is, told) =
      subst (λ (s : Status). SaysWork work threshold print tells disk s text) (sym status_is)
      (done_says outcome done told outcome.end.died refl outcome.told.limited refl)
  says_work (comes.Unbegun said) status says (status_is, told) =
      unbegun_says status (as_told (SaysUnbegun tells disk) status said.status text said.text says status_is told)

  pub work_told : (said : Status) → SaysWork work threshold print tells disk said text → IsOfCommand said
  work_told Done h = tt
  work_told Usage h = tt
  work_told Script h = tt
  work_told Read h = tt
  work_told Write h = h
  work_told Disk h = tt
  work_told Refused h = tt
  work_told NoMemory h = h
  work_told Limit h = tt

  -- ---- what has to come

  abbrev Does : Status → Type 0
  Does status = DoesWork work threshold print tells disk status text

  abbrev Refuses : Type 0
  Refuses = RefusesDirectories Strict tells disk text

  -- a disk that counts no fault fails nothing
  never_failed : IsCalmDisk disk → Does Disk ⊎ FailsRecovery tells disk text → ⊥
  never_failed calm (inl d) =
      let rose = d.done.ends.failed (died_of d.outcome.end.died d.outcome.told.limited d.status_is) in calm rose.0 rose.1
  never_failed calm (inr f) = calm f.side f.failed

  -- directories that have a store are not refused
  not_refused : MayBegin tells disk → Refuses → ⊥
  not_refused b r = store_or_refused Strict (directories disk.before) b.used b.base r.fault b.store (r.refused b.told)

  module _ (b : MayBegin tells disk) where
    abbrev from : ℕ
    from = begins_at b

    -- the base of work is the store of the directories, and begins with the same number
    asks_told : (status : Status) (d : Does status) → IsLimitedExactly from b.base d.outcome.end.died (work_rounds work) d.done.batches d.done.says.replies
    asks_told status d =
        let read = d.done.read in
        let same = store_once Strict (directories disk.before) read.used b.used read.batches b.base (read.store b.told) b.store in
        let next : next_of read ≡ next_in b.used b.base =
        ap (λ (n : ℕ). end_after n read.batches) (number_used read.used read.seen (read.tells_used b.told))
        ∙ ap (λ (u : Option Used). next_in u read.batches) same.0 ∙ ap (next_in b.used) same.1 in
        subst (λ (l : List Batch). IsLimitedExactly (first_number (next_in b.used b.base) l) l d.outcome.end.died (work_rounds work) d.done.batches d.done.says.replies) same.1
        (subst (λ (n : ℕ). IsLimitedExactly (first_number n read.batches) read.batches d.outcome.end.died (work_rounds work) d.done.batches d.done.says.replies) next
        d.done.says.answers.exact)

    done_within : Does Done → (WAL_MAX < b.next) ⊎ AsksTooMuch from b.base (work_rounds work) → ⊥
    done_within d (inl past) =
        omega (arith, past, d.done.logs.within, one_next_wal (directories disk.before) d.done.logs.wal b.next (d.done.logs.next b.told) b.next_is)
    done_within d (inr much) =
        let neither = done_of d.outcome.end.died d.outcome.told.limited d.status_is in
        let clash : true ≡ false = sym ((asks_told Done d).some neither.0 much) ∙ sym d.done.says.answers.limited ∙ neither.1 in absurd cc

    limited_past : Does Limit ⊎ LacksWal tells disk text → b.next ≤ WAL_MAX → AsksEnough work from b.base → ⊥
    limited_past (inl d) within enough =
        let some = limited_of d.outcome.end.died d.outcome.told.limited d.status_is in
        let none : limit_told d.done.says.replies ≡ false = (asks_told Limit d).none enough.numbers enough.batches in
        let clash : true ≡ false = sym some ∙ d.done.says.answers.limited ∙ none in absurd cc
    limited_past (inr l) within enough =
        omega (arith, l.past, within, one_next_wal (directories disk.before) l.next b.next (l.next_is b.told) b.next_is)

    done_due : b.next ≤ WAL_MAX → AsksEnough work from b.base → (said : Status) → SaysWork work threshold print tells disk said text → Done ≡ said
    done_due within enough Done h = refl
    done_due within enough Usage h = absurd h
    done_due within enough Script h = absurd h
    done_due within enough Read h = absurd h
    done_due within enough Write h = absurd h
    done_due within enough Disk h = absurd (never_failed b.calm h)
    done_due within enough Refused h = absurd (not_refused b h)
    done_due within enough NoMemory h = absurd h
    done_due within enough Limit h = absurd (limited_past h within enough)

    limit_due : (WAL_MAX < b.next) ⊎ AsksTooMuch from b.base (work_rounds work) → (said : Status)
        → SaysWork work threshold print tells disk said text → Limit ≡ said
    limit_due past Done h = absurd (done_within h past)
    limit_due past Usage h = absurd h
    limit_due past Script h = absurd h
    limit_due past Read h = absurd h
    limit_due past Write h = absurd h
    limit_due past Disk h = absurd (never_failed b.calm h)
    limit_due past Refused h = absurd (not_refused b h)
    limit_due past NoMemory h = absurd h
    limit_due past Limit h = refl

  refused_due : IsToRefuse Strict tells disk → (said : Status) → SaysWork work threshold print tells disk said text → Refused ≡ said
  refused_due r Done h = absurd (not_read Strict tells disk h.done.read r)
  refused_due r Usage h = absurd h
  refused_due r Script h = absurd h
  refused_due r Read h = absurd h
  refused_due r Write h = absurd h
  refused_due r Disk h = absurd (never_failed r.calm h)
  refused_due r Refused h = refl
  refused_due r NoMemory h = absurd h
  refused_due r Limit (inl d) = absurd (not_read Strict tells disk d.done.read r)
  refused_due r Limit (inr l) = absurd (not_read Strict tells disk l.read r)

  pub work_due : (said : Status) → SaysWork work threshold print tells disk said text → IsTheDue (WorkIsDue work tells disk) said
  work_due said h Done (b, within, enough) = done_due b within enough said h
  work_due said h Usage d = absurd d
  work_due said h Script d = absurd d
  work_due said h Read d = absurd d
  work_due said h Write d = absurd d
  work_due said h Disk d = absurd d
  work_due said h Refused d = refused_due d said h
  work_due said h NoMemory d = absurd d
  work_due said h Limit (b, past) = limit_due b past said h

-- work that was taken on, and told
module _ (work : Work) (threshold : ℕ) (print : Outcome → List ℕ) (tells : Bool) (disk : Change DiskView) where
  said_of : {E : Type 0} (worked : Result Worked E) → IfOk worked (WorkComesTo work threshold tells disk) → (s : Said)
      → IsOkAnd worked (λ w. TellsWorked print w s.status s.text) → SaysWork work threshold print tells disk s.status s.text
  said_of (Ok w) came s told = says_work work threshold print tells disk s.text w s.status came told
  said_of (Err e) came s told = absurd told

  pub says_worked : {E : Type 0} (worked : Result Worked E) (said : Result Said E) → IfOk worked (WorkComesTo work threshold tells disk)
      → IfOk said (λ s. IsOkAnd worked (λ w. TellsWorked print w s.status s.text))
      → IfOk said (λ s. SaysWork work threshold print tells disk s.status s.text)
  says_worked worked said came told = ok_map said told (said_of worked came)
