use Rattle.std.proofs.Common.{◌≡◌, ◌++◌, ◌∷◌, [], arith, ◌∙◌, sym, length}
use Rattle.batch_repr.specs.Written.{written_entry, written_len}
use Rattle.batch_repr.proofs.Tools.{ok_of}
use Rattle.batch_repr.proofs.Drafts.{len_is, draft_more, no_room, has_room}
use Rattle.batch_repr.proofs.builder.add.Goals as goal

pub returns-then-len-gt-BATCH_MAX-clause-fault : goal.returns-then-len-gt-BATCH_MAX-clause-fault
returns-then-len-gt-BATCH_MAX-clause-fault c =
    let grown : c.push_entry.new.out.items ≡ c.args.bytes.now.items ++ written_entry c.args.entry = ok_of c.push_entry.result _
    (sym c.if-is_err.ensures.value) c.push_entry.ensures.ok in
    let len : length c.push_entry.new.out.items ≡ written_len (c.args.entries.now ++ c.args.entry ∷ []) = len_is c.args.bytes.now.items
    c.push_entry.new.out.items c.args.entries.now c.args.entry c.requires.draft grown in
    no_room _ c.len-len.result (sym len ∙ omega arith) (omega arith)

pub returns-clause-draft : goal.returns-clause-draft
returns-clause-draft c =
    let grown : c.push_entry.new.out.items ≡ c.args.bytes.now.items ++ written_entry c.args.entry = ok_of c.push_entry.result _
    (sym c.if-is_err.ensures.value) c.push_entry.ensures.ok in
    let pushed : c.push.new.self ≡ c.args.entries.now ++ c.args.entry ∷ [] = ok_of c.push.result _ (sym c.if-is_err-2.ensures.value) c.push.ensures.ok in
    draft_more c.args.bytes.now.items c.push_entry.new.out.items c.args.entries.now c.push.new.self c.args.entry c.requires.draft
    c.requires.limits grown (omega arith) pushed

pub returns-clause-fault : goal.returns-clause-fault
returns-clause-fault c =
    let grown : c.push_entry.new.out.items ≡ c.args.bytes.now.items ++ written_entry c.args.entry = ok_of c.push_entry.result _
    (sym c.if-is_err.ensures.value) c.push_entry.ensures.ok in
    let len : length c.push_entry.new.out.items ≡ written_len (c.args.entries.now ++ c.args.entry ∷ []) = len_is c.args.bytes.now.items
    c.push_entry.new.out.items c.args.entries.now c.args.entry c.requires.draft grown in
    has_room _ c.len-len.result (sym len ∙ omega arith) (omega arith)
