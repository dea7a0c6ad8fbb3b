-- `refine_words::put_label_line` meets its contract: a word, its numbers and the newline. Assumes nothing.
use Rattle.refine_words.proofs.Texts.{put_whole}
use Rattle.refine_words.proofs.put_label_line.Goals as goal

pub returns : goal.returns
returns c =
    put_whole _ c.requires c.put_word-first.ensures c.put_labels-last.ensures c.put_byte.ensures
