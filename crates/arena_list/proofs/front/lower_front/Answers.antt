-- Where a key leaves the front, the shorter one is begun with by all, and leads and entries are made anew for it.
use Rattle.std.proofs.Common.{◌<◌, length, sym, subst, ℕ}
use Rattle.std.proofs.lemmas.List.Elements.{Contains-get_or}
use Rattle.arena_list.specs.Tops.{guide_at, no_guide}
use Rattle.arena_list.proofs.Tops.{guide_there}
use Rattle.arena_list.proofs.Lowered.{nothing_guided, lowered_led, lowered_top}
use Rattle.arena_list.proofs.front.lower_front.Goals as goal

pub returns-in-None-clause-top : goal.returns-in-None-clause-top
returns-in-None-clause-top c =
    nothing_guided c.args.shared (length c.args.key.now) c.args.nodes.now c.args.top.now c.requires.linked c.in-None.ensures.none c.requires.top

pub guide_anew-requires : goal.guide_anew-requires
guide_anew-requires c k less =
    let top = c.args.top.now in
    subst (λ (n : ℕ). (guide_at top k).place < n) (sym c.lead_anew.ensures.kept.len)
    (guide_there c.args.nodes.now top c.requires.linked c.requires.top (guide_at top k) (Contains-get_or top k no_guide less))

pub returns-clause-led : goal.returns-clause-led
returns-clause-led c =
    lowered_led c.args.nodes.now c.lead_anew.new.nodes c.requires.linked c.lead_anew.ensures.kept c.in-Some.front.now c.args.key.now
    c.shared_len-left.result c.in-Some.ensures.led c.shared_len-left.ensures.too c.shared_len-left.ensures.within c.shared_len-left.ensures.shared
    c.lead_anew.ensures

pub returns-clause-top : goal.returns-clause-top
returns-clause-top c =
    lowered_top c.args.nodes.now c.lead_anew.new.nodes c.requires.linked c.lead_anew.ensures.kept c.args.shared c.shared_len-left.result
    c.args.top.now c.guide_anew.new.top c.requires.top c.guide_anew.ensures
