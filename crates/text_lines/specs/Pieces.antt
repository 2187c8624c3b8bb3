-- Pieces of a line (docs/formats/program.md, "Printed bytes").
use Rattle.std.specs.Prelude.{List, ℕ}
use Rattle.std.specs.List.{flat_map}
use Rattle.std.specs.Fmt.{decimal}
use Rattle.disk_face.specs.Names.{seg_text, table_name_text}
use Rattle.text_lines.specs.declared.pieces.Piece.{Piece}
use Rattle.text_lines.specs.declared.pieces.Piece.TheVariants as pieces
use Rattle.text_lines.specs.Printed.{printed}

-- what a piece adds to a line
abbrev pub piece_text : Piece → List ℕ
piece_text (pieces.Text bytes) = bytes.now
piece_text (pieces.Printed bytes) = printed bytes.now
piece_text (pieces.Number number) = decimal number
piece_text (pieces.Name name) = seg_text name
piece_text (pieces.TableName name) = table_name_text name.upto

-- what pieces add, one after another
abbrev pub pieces_text : List Piece → List ℕ
pieces_text pieces = flat_map piece_text pieces
