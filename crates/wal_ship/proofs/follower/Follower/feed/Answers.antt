use Rattle.std.proofs.Common.{◌≡◌, ◌+◌, ◌-◌, None, List, ℕ, length, take, drop, arith, rules, ap, ◌∙◌, subst, length-drop}
use Rattle.std.proofs.lemmas.List.{drop-drop, take_rest}
use Rattle.wal_ship.specs.Following.{Following, TakesFront}
use Rattle.wal_ship.proofs.Portions.{takes_on}
use Rattle.wal_ship.proofs.follower.Follower.feed.Goals as goal

pub loop-self-preserved : goal.loop-self-preserved
loop-self-preserved c =
    let i = c.loop-self.invariant in
    let t = c.in_ok-count.ensures.takes in
    let first : Following = c.args.self.now in
    let mid : Following = c.loop-self.self in
    let last : Following = c.take_some.new.self in
    let piece : List ℕ = c.args.piece.now in
    let rest : List ℕ = c.loop-self.rest.now in
    let count : ℕ = c.in_ok-count.count in
    let right : mid.fault ≡ None = search rules in
    let left : take (length rest - count) (drop count rest) ≡ drop count rest = take_rest rest count in
    let gone : mid.fed - first.fed + count ≡ last.fed - first.fed = omega (arith, i.fed.0, t.fed) in
    record {
      local = t.local ∙ i.local;
      fed = rw left (omega (arith, i.fed.0, t.fed), omega (arith, length-drop count rest, i.fed.1, t.fed, t.within));
      rest = left ∙ ap (drop count) i.rest ∙ drop-drop count (mid.fed - first.fed) piece
          ∙ ap (λ (n : ℕ). drop n piece) gone;
      takes = subst (TakesFront first last piece) gone
          (takes_on first mid last piece (mid.fed - first.fed) count i.takes (subst (λ (x : List ℕ). TakesFront mid last x count) i.rest t.takes));
      lasts = λ fault e. let same = i.lasts fault e in absurd cc;
    }
