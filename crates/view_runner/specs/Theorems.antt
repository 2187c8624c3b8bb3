-- A law of views, as one statement (docs/formats/view.md, "The replies").
use Rattle.std.specs.Prelude.{◌≡◌, ℕ, List}
use Rattle.batch_repr.specs.declared.batch.Batch.{Batch}
use Rattle.view_script.specs.declared.view_line.ViewLine.{ViewLine}
use Rattle.view_runner.specs.Replies.{IsViewText}

-- Lines have one text over batches that are viewed from a floor on.
abbrev pub ViewsHaveOneText : Type 0
ViewsHaveOneText = (batches : List Batch) (floor : ℕ) (lines : List ViewLine) (one other : List ℕ)
    → IsViewText batches floor lines one → IsViewText batches floor lines other → one ≡ other
