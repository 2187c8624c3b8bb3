use Rattle.made_load.proofs.LoadTexts.{texts_begin, texts_more}
use Rattle.made_load.proofs.load_lines.load_texts.Goals as goal

pub loop-place-init : goal.loop-place-init
loop-place-init c = texts_begin c.args.batches.now c.in_ok-text.text.items c.in_ok-text.ensures.items

pub loop-place-preserved : goal.loop-place-preserved
loop-place-preserved c =
    texts_more c.args.batches.now c.loop-place.place c.number.result c.loop-place.text.items c.put_text.new.text.items c.number.ensures
    c.loop-place.invariant c.in_ok-put_text.ensures
