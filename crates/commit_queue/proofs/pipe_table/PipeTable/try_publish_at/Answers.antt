use Rattle.std.proofs.Common.{arith, ◌%◌, ◌≡◌, ℕ, refl, ap, sym, subst, ◌∙◌}
use Rattle.publish_core.specs.declared.state.TheConstants.{SLOTS}
use Rattle.publish_core.specs.Machine.{Acts}
use Rattle.commit_queue.specs.declared.view.View.{View}
use Rattle.commit_queue.specs.Tells.{Seated, high, low}
use Rattle.commit_queue.specs.Calls.{looked_view}
use Rattle.commit_queue.proofs.Places.{sees_slot}
use Rattle.commit_queue.proofs.Publishes.{sees_ends}
use Rattle.commit_queue.proofs.Tries.{looked, acts_looked, raised_chain, can_claim, can_empty, can_raise}
use Rattle.commit_queue.proofs.pipe_table.PipeTable.try_publish_at.Goals as goal

pub load-both-requires : goal.load-both-requires
load-both-requires c = (c.requires.table, (let w = c.args.self.now.words in omega arith), sees_ends _ _ _ _ c.requires.acts)

pub load-word-requires : goal.load-word-requires
load-word-requires c = let a = c.load-both.ensures in (
  a.0 ∙ c.requires.table,
  (let w = c.args.self.now.words in omega arith),
  sees_slot _ _ _ _ _ (omega arith)
      (subst (λ (v : View). Acts v.seat) (sym a.2.1) c.requires.acts),
)

pub compare_exchange-found-requires : goal.compare_exchange-found-requires
compare_exchange-found-requires c = let m : Seated = c.args.seat.now.me in let m1 : Seated = c.load-both.new.seat.me in
    let m2 : Seated = c.load-word.new.seat.me in let r : ℕ = c.load-both.result in let x : ℕ = c.load-word.result in
    let small = c.load-both.type_inv in let odd = c.if-word-eq0.false in (
      c.load-word.ensures.0 ∙ c.load-both.ensures.0 ∙ c.requires.table,
      (let w = c.args.self.now.words in omega arith),
      can_claim _ _ _ m m1 m2 r x c.load-both.ensures.2 c.load-word.ensures.2 c.requires.acts c.requires.free c.if-head-tail.false
          (omega arith) (omega arith),
    )

pub store-requires : goal.store-requires
store-requires c = let m : Seated = c.args.seat.now.me in let m1 : Seated = c.load-both.new.seat.me in
    let m2 : Seated = c.load-word.new.seat.me in let m3 : Seated = c.compare_exchange-found.new.seat.me in let r : ℕ = c.load-both.result in
    let x : ℕ = c.load-word.result in
    let e : m2.0 ≡ looked_view m.0 (high r) (low r) x =
    (looked c.args.self.now.table.shared.table_id.slots m m1 m2 r x (low r % SLOTS) refl c.load-both.ensures.2 c.load-word.ensures.2).1 in (
      c.compare_exchange-found.ensures.0 ∙ c.load-word.ensures.0 ∙ c.load-both.ensures.0 ∙ c.requires.table,
      (let w = c.args.self.now.words in omega arith),
      can_empty _ _ _ m2 m3 r x c.compare_exchange-found.result (acts_looked m.0 (high r) (low r) x m2 e c.requires.acts)
          c.compare_exchange-found.ensures.2 c.if-found-both.false,
    )

pub fetch_max-requires : goal.fetch_max-requires
fetch_max-requires c = let m : Seated = c.args.seat.now.me in let m1 : Seated = c.load-both.new.seat.me in
    let m2 : Seated = c.load-word.new.seat.me in let m3 : Seated = c.compare_exchange-found.new.seat.me in
    let m4 : Seated = c.store.new.seat.me in let r : ℕ = c.load-both.result in let x : ℕ = c.load-word.result in
    let e : m2.0 ≡ looked_view m.0 (high r) (low r) x =
    (looked c.args.self.now.table.shared.table_id.slots m m1 m2 r x (low r % SLOTS) refl c.load-both.ensures.2 c.load-word.ensures.2).1 in (
      c.store.ensures.0 ∙ c.compare_exchange-found.ensures.0 ∙ c.load-word.ensures.0 ∙ c.load-both.ensures.0 ∙ c.requires.table,
      (let w = c.args.self.now.words in omega arith),
      can_raise _ _ _ m2 m3 m4 r x c.compare_exchange-found.result (acts_looked m.0 (high r) (low r) x m2 e c.requires.acts)
          (ap (λ (v : View). v.seat.reading) e) c.compare_exchange-found.ensures.2 c.if-found-both.false c.store.ensures.2,
    )

pub returns-clause-tried : goal.returns-clause-tried
returns-clause-tried c = let m : Seated = c.args.seat.now.me in let m1 : Seated = c.load-both.new.seat.me in
    let m2 : Seated = c.load-word.new.seat.me in let m3 : Seated = c.compare_exchange-found.new.seat.me in
    let m4 : Seated = c.store.new.seat.me in let m5 : Seated = c.fetch_max.new.seat.me in
    let r : ℕ = c.load-both.result in let x : ℕ = c.load-word.result in let n : ℕ = c.args.self.now.table.shared.table_id.slots in
    let odd = c.if-word-eq0.false in
    (raised_chain n m m2 m3 m4 m5 r x c.compare_exchange-found.result 0
    (looked n m m1 m2 r x (low r % SLOTS) refl c.load-both.ensures.2 c.load-word.ensures.2) (omega arith)
    c.compare_exchange-found.ensures.2 c.if-found-both.false c.store.ensures.2 c.fetch_max.ensures.2).1
