-- `word_bytes::put_words` meets its contract: what is left to store makes the whole.
use mathlib.Core.Path.{◌≡◌}
use Prim.Native.Nat.{◌+◌, ◌*◌}
use Rattle.word_bytes.proofs.Stores.{words_put}
use Rattle.word_bytes.proofs.put_words.Given as goal

abbrev pub invariant-loop-i : goal.invariant-loop-i
invariant-loop-i l = words_put l.initial.b l.at 0 l.words ≡ words_put l.b (l.at + 8 * l.i) l.i l.words
