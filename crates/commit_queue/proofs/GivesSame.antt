-- A shard that was taken may be given back with the same versions.
use Rattle.std.proofs.Common.{ℕ, List, sym, ap, subst}
use Rattle.memtable_shards.specs.Versions.{Version}
use Rattle.memtable_shards.specs.Versions.{HasSameVersions}
use Rattle.commit_queue.specs.declared.view.View.{View}
use Rattle.commit_queue.specs.Tells.{TakesShard}
use Rattle.commit_queue.specs.Calls.{GivesSame}

pub same_versions : (versions : List Version) → HasSameVersions versions versions
same_versions versions version = (λ h. h, λ h. h)

pub gives_same : (v v' : View) (shard : ℕ) (taken versions : List Version) → TakesShard v shard taken v' → HasSameVersions taken versions
    → GivesSame v' versions
gives_same v v' shard taken versions t same = record {
  shard = shard;
  turn = ap (λ (x : View). x.seat.turn) t.view;
  same = subst (λ (l : List Version). HasSameVersions l versions) (sym (ap (λ (x : View). x.taken) t.view)) same;
}
