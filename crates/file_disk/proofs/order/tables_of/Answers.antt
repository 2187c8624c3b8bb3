use Rattle.std.proofs.Common.{◌≡◌, List, map, sym, subst}
use Rattle.std.proofs.lemmas.Result.{IfOk-weaker}
use Rattle.disk_face.specs.declared.TableListed.{TableListed}
use Rattle.disk_face.specs.Listing.{AreTablesAscending, AreTableNumbers}
use Rattle.file_disk.specs.Found.{found_as}
use Rattle.file_disk.proofs.Tables.{tables_ascend, tables_numbered}
use Rattle.file_disk.proofs.order.tables_of.Goals as goal

pub returns-clause-ascending : goal.returns-clause-ascending
returns-clause-ascending c =
    IfOk-weaker c.gather.result (λ (l : List TableListed). l ≡ map found_as c.args.found.now.entries) AreTablesAscending
    (λ l is. subst AreTablesAscending (sym is) (tables_ascend c.args.found.now.entries c.gather.ensures.ordered)) c.gather.ensures.found

pub returns-clause-numbers : goal.returns-clause-numbers
returns-clause-numbers c =
    IfOk-weaker c.gather.result (λ (l : List TableListed). l ≡ map found_as c.args.found.now.entries) AreTableNumbers
    (λ l is. subst AreTableNumbers (sym is) (tables_numbered c.args.found.now.entries c.requires)) c.gather.ensures.found
