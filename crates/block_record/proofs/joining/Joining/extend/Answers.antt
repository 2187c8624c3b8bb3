use Rattle.std.proofs.Common.{◌≤◌, ◌++◌, length, sym, ap, subst, ◌∙◌}
use Rattle.std.specs.List.{slice_range}
use Rattle.block_record.specs.Joined.{Joined}
use Rattle.block_record.proofs.Joined.{extended_spells}
use Rattle.block_record.proofs.joining.Joining.extend.Goals as goal

pub returns-clause-spelled : goal.returns-clause-spelled
returns-clause-spelled c =
    let s = c.self.inside in
    extended_spells s.bytes.items c.copy_within.new.self.items s.whole.items s.rest s.ends_at c.args.from c.args.end c.self.invariant
    (subst (λ (j : Joined). j.reach ≤ c.args.from) (sym c.self.view_is) c.requires.behind) c.requires.order
    (subst (λ (j : Joined). c.args.end ≤ length j.bytes) (sym c.self.view_is) c.requires.within) c.copy_within.ensures.items
    ∙ ap (λ (j : Joined). record j.spelled { rest = record { at = j.spelled.rest.at; bytes = j.spelled.rest.bytes ++ slice_range j.bytes c.args.from c.args.end } }) c.self.view_is
