-- `word_bytes::put_words` meets its contract: what is left to store makes the whole.
use mathlib.Core.Path.{sym, ◌∙◌}
use Prim.Native.Nat.{◌≤◌, ◌<◌}
use native.Mathlib.Omega.{arith}
use lib.ListN.{length}
use Rattle.word_bytes.proofs.Stores.{words_all, words_next, words_done}
use Rattle.word_bytes.proofs.put_words.Goals as goal

pub loop-i-preserved : goal.loop-i-preserved
loop-i-preserved c =
    let l = c.loop-i in
    let h : l.i < length c.args.words.now = omega arith in
    l.invariant ∙ words_next _ _ _ _ _ _ h (omega arith) c.put_le.ensures

pub returns : goal.returns
returns c =
    let h : length c.args.words.now ≤ c.loop-i.i = omega arith in
    sym (c.loop-i.invariant ∙ words_done _ _ _ _ h) ∙ words_all _ _ _
