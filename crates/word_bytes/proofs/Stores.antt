-- Stores of words in bytes: what is left to store, one step further and at the end. Once for every width, and once for every number of words.
use mathlib.Core.Path.{◌≡◌, refl, sym, ap, ap₂, ◌∙◌}
use mathlib.Core.List.{List}
use Prim.Native.Nat.{ℕ, suc, ◌+◌, ◌/◌, ◌%◌, ◌≤◌, ◌<◌}
use native.Mathlib.Numerals.{add-one}
use lib.ListN.{get_or, set, length, drop, drop_of_length-le}
use lib.Seq.{sets, drop-cons}
use Rattle.rules.specs.Record.{le_bytes, word_bytes}
use Rattle.rules.proofs.Rows.{sets_append}

-- the n low bytes of x stored from place p on
unfoldable pub le_put : ℕ → List ℕ → ℕ → ℕ → List ℕ
le_put n b p x = sets b p (le_bytes n x)

pub le_next : (n m : ℕ) (b : List ℕ) (p x : ℕ) → n ≡ m + 1 → le_put n b p x ≡ le_put m (set b p (x % 256)) (p + 1) (x / 256)
unfolding le_put
le_next n m b p x e =
    ap (λ (k : ℕ). sets b p (le_bytes k x)) (e ∙ add-one m) ∙ ap (λ (q : ℕ). sets (set b p (x % 256)) q (le_bytes m (x / 256))) (sym (add-one p))

pub le_all : (n : ℕ) (b : List ℕ) (p x : ℕ) → le_put n b p x ≡ sets b p (le_bytes n x)
unfolding le_put
le_all n b p x = refl

pub le_done : (n : ℕ) (b : List ℕ) (p x : ℕ) → n ≡ 0 → le_put n b p x ≡ b
unfolding le_put
le_done n b p x e = ap (λ (k : ℕ). sets b p (le_bytes k x)) e

-- the words from the i-th on, stored from place p on
unfoldable pub words_put : List ℕ → ℕ → ℕ → List ℕ → List ℕ
words_put b p i ws = sets b p (word_bytes (drop i ws))

pub words_next : (b b' : List ℕ) (p q i : ℕ) (ws : List ℕ) → i < length ws → q ≡ p + 8 → b' ≡ sets b p (le_bytes 8 (get_or ws i 0))
    → words_put b p i ws ≡ words_put b' q (i + 1) ws
unfolding words_put
words_next b b' p q i ws h e x =
    ap (λ (l : List ℕ). sets b p (word_bytes l)) (drop-cons ws i 0 h)
    ∙ sets_append (le_bytes 8 (get_or ws i 0)) (word_bytes (drop (suc i) ws)) b p
    ∙ ap₂ (λ (l : List ℕ) (k : ℕ). sets l (p + 8) (word_bytes (drop k ws))) (sym x) (sym (add-one i))
    ∙ ap (λ (k : ℕ). sets b' k (word_bytes (drop (i + 1) ws))) (sym e)

pub words_all : (b : List ℕ) (p : ℕ) (ws : List ℕ) → words_put b p 0 ws ≡ sets b p (word_bytes ws)
unfolding words_put
words_all b p ws = refl

pub words_done : (b : List ℕ) (p i : ℕ) (ws : List ℕ) → length ws ≤ i → words_put b p i ws ≡ b
unfolding words_put
words_done b p i ws h = ap (λ (l : List ℕ). sets b p (word_bytes l)) (drop_of_length-le ws h)
