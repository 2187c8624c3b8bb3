use Rattle.std.proofs.Common.{◌≡◌, List, Any, Contains, sym, subst}
use Rattle.std.specs.List.Sorted.{IsPermutation}
use Rattle.std.proofs.lemmas.Result.{IfOk-weaker}
use Rattle.std.proofs.lemmas.List.Elements.{All-weaker, All-contains}
use Rattle.std.proofs.lemmas.List.Sorted.{All-permutation, Contains-permutation, IsPermutation-sym}
use Rattle.disk_face.specs.Listing.{IsSegmentName, AreSegmentNames}
use Rattle.disk_face.specs.declared.Listed.{Listed}
use Rattle.file_disk.specs.Found.{AreAmong, HasEachName}
use Rattle.file_disk.proofs.order.names_of.Goals as goal

pub returns-clause-numbers : goal.returns-clause-numbers
returns-clause-numbers c =
    let moved = subst (λ (l : List Listed). IsPermutation c.args.found.items l) (sym c.as_slice.ensures.value) c.sort.ensures.moved in
    let numbers = All-permutation (λ item. IsSegmentName item.name) _ _ moved c.requires in
    IfOk-weaker c.each_once.result (AreAmong c.as_slice.result.now) AreSegmentNames
    (λ names among. All-weaker (Contains c.as_slice.result.now) (λ item. IsSegmentName item.name) (λ item found. All-contains (λ it. IsSegmentName it.name) _ item numbers found) names among)
    c.each_once.ensures.found

pub returns-clause-found : goal.returns-clause-found
returns-clause-found c =
    let moved = subst (λ (l : List Listed). IsPermutation c.args.found.items l) (sym c.as_slice.ensures.value) c.sort.ensures.moved in
    let back = IsPermutation-sym _ _ moved in
    IfOk-weaker c.each_once.result (AreAmong c.as_slice.result.now) (AreAmong c.args.found.items)
    (λ names among. All-weaker (Contains c.as_slice.result.now) (Contains c.args.found.items) (λ item found. Contains-permutation _ _ item back found) names among)
    c.each_once.ensures.found

pub returns-clause-all : goal.returns-clause-all
returns-clause-all c =
    let moved = subst (λ (l : List Listed). IsPermutation c.args.found.items l) (sym c.as_slice.ensures.value) c.sort.ensures.moved in
    let back = IsPermutation-sym _ _ moved in
    IfOk-weaker c.each_once.result (HasEachName c.as_slice.result.now) (HasEachName c.args.found.items)
    (λ names each. All-permutation (λ item. Any (λ listed. listed.name ≡ item.name) names) _ _ back each)
    c.each_once.ensures.all
