-- Recovery looks at segments alone, and without a segment recovers no batch.
use Rattle.std.proofs.Common.{◌≡◌, ℕ, List, [], refl, sym, ◌∙◌}
use Rattle.batch_repr.specs.declared.batch.Batch.{Batch}
use Rattle.disk_face.specs.declared.Side.{Side}
use Rattle.disk_face.specs.declared.SegName.{SegName}
use Rattle.disk_face.specs.View.{segment, Dirs}
use Rattle.segment_merge.proofs.Laws.{none_within}
use Rattle.wal_recovery.specs.Listing.{Stored, AreByNumber, name_in, StandsIn}
use Rattle.wal_recovery.specs.Recovering.{WalsMerge, RecoversFrom}
use Rattle.wal_recovery.proofs.OneAnswer.{recovers_once_from}

pub recovers_alike : (first : ℕ) (dirs others : Dirs) (merged : List Batch)
    → ((side : Side) (name : SegName) → dirs (segment side name) ≡ others (segment side name)) → RecoversFrom first others merged
    → RecoversFrom first dirs merged
recovers_alike first dirs others merged same r = record {
  wals = r.wals;
  listed = record {
    order = r.listed.order;
    same = λ number stored. (
      λ h. let s = (r.listed.same number stored).0 h in (s.0, same stored.side (name_in number stored.index) ∙ s.1),
      λ s. (r.listed.same number stored).1 (s.0, sym (same stored.side (name_in number stored.index)) ∙ s.1),
    );
  };
  merges = r.merges;
}

pub recovers_none : (first : ℕ) (dirs : Dirs) → ((number : ℕ) (stored : Stored) → StandsIn dirs number stored → ⊥) → RecoversFrom first dirs []
unfolding AreByNumber WalsMerge
recovers_none first dirs none = record {
  wals = [];
  listed = record { order = tt; same = λ number stored. (λ h. absurd (none_within h.0 h.1), λ s. absurd (none number stored s)) };
  merges = refl;
}

pub none_recovered : (first : ℕ) (dirs : Dirs) (merged : List Batch) → ((number : ℕ) (stored : Stored) → StandsIn dirs number stored → ⊥)
    → RecoversFrom first dirs merged → merged ≡ []
none_recovered first dirs merged none r = recovers_once_from first dirs merged [] r (recovers_none first dirs none)
