-- The first session reads, and the others are as they were.
use Rattle.std.proofs.Common.{◌≡◌, ◌∙◌, ℕ, zero, suc, ◌<◌, List, [], ◌∷◌, length, get_or, Some, le_refl, refl, sym, ap, subst, arith}
use Rattle.std.specs.Prelude.{slice_get, slice_set, Result, Ok, Err, IfOk, OnErr}
use Rattle.std.proofs.lemmas.Option.{slice_get-get_or}
use Rattle.commit_pipeline.specs.declared.fault.Reply.{Reply}
use Rattle.commit_pipeline.specs.Openings.{Opening}
use Rattle.commit_pipeline.specs.declared.standing.Standing.{Standing}
use Rattle.commit_pipeline.specs.Standings.{Idles}
use Rattle.wal_base.specs.declared.error.NoMemory.{NoMemory}
use Rattle.wal_base.proofs.Laws.{prefix_same, prefix_then}
use Rattle.commit_pipeline.specs.Commits.{TellsRead, MissesRead}
use Rattle.commit_pipeline.specs.Meeting.{StaysOn, StayOn}
use Rattle.session_rounds.specs.Players.{FirstReads}

-- ---- a session that stays

stays_still : (s : Standing) → StaysOn s s
stays_still s = record {
  goes_on = record { seen = prefix_same s.seen; acked = le_refl s.acked; told = le_refl s.told };
  own = refl;
  dead = refl;
}

stays_then : (s mid new : Standing) → StaysOn s mid → StaysOn mid new → StaysOn s new
stays_then s mid new one two = record {
  goes_on = record {
    seen = prefix_then s.seen mid.seen new.seen one.goes_on.seen two.goes_on.seen;
    acked = omega (arith, one.goes_on.acked, two.goes_on.acked);
    told = omega (arith, one.goes_on.told, two.goes_on.told);
  };
  own = two.own ∙ one.own;
  dead = two.dead ∙ one.dead;
}

idle_stays : (s s' : Standing) → Idles s s' → s'.dead ≡ s.dead → StaysOn s s'
idle_stays s s' idles dead = record { goes_on = idles.goes_on; own = idles.own; dead = dead }

pub met_still : (ss : List Standing) → StayOn ss ss
met_still ss = record { all = refl; each = λ i s s' here there. let same : s ≡ s' = cc in subst (StaysOn s) same (stays_still s) }

-- A read leaves its session as it was, but for what it sees, whatever it answers.
pub reads_stay : (opening : Opening) (key : List ℕ) (result : Result Reply NoMemory) (s s' : Standing)
    → IfOk result (λ reply. TellsRead opening key reply s s') → OnErr result (MissesRead s s') → StaysOn s s'
reads_stay opening key (Ok reply) s s' reads misses = idle_stays s s' reads.idles reads.dead
reads_stay opening key (Err fault) s s' reads misses = idle_stays s s' misses.0 misses.1

-- ---- the first one

pub first_here : (ss : List Standing) (s : Standing) → 0 < length ss → s ≡ get_or ss 0 s → slice_get ss 0 ≡ Some s
first_here ss s some is = slice_get-get_or ss 0 s some ∙ ap Some (sym is)

pub first_stays : (met ss : List Standing) (s s' : Standing) → StayOn met ss → slice_get ss 0 ≡ Some s → StaysOn s s'
    → StayOn met (slice_set ss 0 s')
first_stays met [] s s' stay here on = absurd cc
first_stays met (o ∷ os) s s' stay here on = record {
  all = stay.all;
  each = λ i t t' at at'. go i t t' at at';
}
  where
    go : (i : ℕ) (t t' : Standing) → slice_get met i ≡ Some t → slice_get (s' ∷ os) i ≡ Some t' → StaysOn t t'
    go zero t t' at at' =
        let is : s' ≡ t' = cc in
        subst (StaysOn t) is (stays_then t s s' (stay.each 0 t s at here) on)
    go (suc i) t t' at at' = stay.each (suc i) t t' at at'

pub first_reads : (opening : Opening) (key : List ℕ) (reply : Reply) (met ss : List Standing) (s s' : Standing) → slice_get ss 0 ≡ Some s
    → TellsRead opening key reply s s'
    → FirstReads opening key reply (record { met = met; now = ss }) (record { met = met; now = slice_set ss 0 s' })
first_reads opening key reply met [] s s' here reads = absurd cc
first_reads opening key reply met (o ∷ os) s s' here reads = record {
  first = s;
  first' = s';
  others = os;
  was = let same : o ≡ s = cc in ap (λ (x : Standing). x ∷ os) same;
  is = refl;
  met = refl;
  reads = reads;
}
