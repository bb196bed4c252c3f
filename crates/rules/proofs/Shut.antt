-- CLOSED WALLETS ARE EMPTY (`Shuts`), AND NOTHING MOVES IN THEM (`Leaves`): shown for each small move. A word of a wallet is set in a row that is not
-- closed, or closes an empty one; a new wallet goes behind those that are written, and is not closed; a new escrow goes to a wallet that is not closed;
-- the rest of the tables does not matter. Moves are put together by `leaves_then`.
use mathlib.Core.Path.{◌≡◌, refl, sym, ap, ◌∙◌, subst}
use mathlib.Core.Logic.{◌≢◌}
use mathlib.Core.List.{List}
use mathlib.Core.Bool.{Bool, true, false, ◌&&◌, true≢false}
use Prim.Native.Nat.{ℕ, zero, suc, ◌+◌, ◌≤◌, ◌<◌}
use native.Mathlib.Nat.{le_refl, le_trans}
use native.Mathlib.Decide.{ℕ_discrete}
use native.Mathlib.Omega.{arith}
use lib.ListN.{length}
use lib.Seq.{get_or-set_same, get_or-set_other}
use lib.Dec.{eqb, lit<}
use borrow.Author.Tests.{eqb-true, eq-eqb}
use Rattle.rules.specs.Limits.{WALLET_LEN, WALLETS, ESCROWS, ENTRIES, ID, BALANCE, LOCKED, FROZEN, IS_CLOSED, TO, ESCROW_STATE, IS_OPEN}
use Rattle.rules.specs.Table.{word, put_row, rows_in, some}
use Rattle.rules.specs.Ledger.{Ledger, wallet, escrow, wallet_count, escrow_count, entry_count, row_of, wallet_row, has_wallet}
use Rattle.rules.specs.Ledger.{put_head, put_wallet, put_receipt, new_wallet, new_escrow, new_entry}
use Rattle.rules.specs.Wallets.{open_to}
use Rattle.rules.specs.Settle.{raise, lower, blank_wallet, ensure_wallet, close_receipt, escrow_of}
use Rattle.rules.specs.declared.Submission.{Submission}
use Rattle.rules.proofs.Bools.{and_intro, cond_case}
use Rattle.rules.proofs.Rows.{room, word_row, word_col, word_new, word_old, put_prop}
use Rattle.rules.proofs.Counts.{some_of}
use Rattle.rules.proofs.Accounts.{row_put, Distinct}
use Rattle.rules.proofs.Ensured.{WalletPlace}
use Rattle.rules.proofs.GoodRows.{new_or_old}

-- the wallet in row i has nothing, and no open escrow goes to it
pub record Empty (L : Ledger) (i : ℕ) : Type 0 where
  pub balance : wallet L i BALANCE ≡ 0
  pub locked : wallet L i LOCKED ≡ 0
  pub none_to : (j : ℕ) → j < escrow_count L → eqb (escrow L j ESCROW_STATE) IS_OPEN ≡ true → escrow L j TO ≢ wallet L i ID

-- every closed wallet is empty
abbrev pub Shuts : Ledger → Type 0
Shuts L = (i : ℕ) → i < wallet_count L → wallet L i FROZEN ≡ IS_CLOSED → Empty L i

-- that holds of K, and a wallet that is closed in L has the same row there, word for word
pub record Leaves (L K : Ledger) : Type 0 where
  pub shuts : Shuts K
  pub count : wallet_count L ≤ wallet_count K
  pub rows : (i : ℕ) → i < wallet_count L → wallet L i FROZEN ≡ IS_CLOSED → (c : ℕ) → c < WALLET_LEN → wallet K i c ≡ wallet L i c

pub leaves_same : (L : Ledger) → Shuts L → Leaves L L
leaves_same L s = record { shuts = s; count = le_refl (wallet_count L); rows = λ i h e c c<. refl }

pub leaves_then : {L K M : Ledger} → Leaves L K → Leaves K M → Leaves L M
leaves_then a b = record {
  shuts = b.shuts;
  count = le_trans a.count b.count;
  rows = λ i h e c c<. b.rows i (le_trans h a.count) (a.rows i h e FROZEN (lit< tt) ∙ e) c c< ∙ a.rows i h e c c<;
}

-- ---- a word of a wallet

-- the row in which the wallet of v is found is not closed
abbrev pub Alive : Ledger → ℕ → Type 0
Alive L v = wallet L (wallet_row L v) FROZEN ≢ IS_CLOSED

module _ (L : Ledger) (i c x : ℕ) (c< : c < WALLET_LEN) where
  pub live_put : (j : ℕ) → FROZEN ≢ c → wallet L j FROZEN ≢ IS_CLOSED → wallet (put_wallet i c x L) j FROZEN ≢ IS_CLOSED
  unfolding put_wallet
  live_put j ne live e = live (sym (word_col L.wallets WALLET_LEN i c x j FROZEN c< (lit< tt) ne) ∙ e)

  pub alive_put : (v : ℕ) → ID ≢ c → FROZEN ≢ c → Alive L v → Alive (put_wallet i c x L) v
  unfolding put_wallet
  alive_put v n0 n3 live e =
      live_put (wallet_row L v) n3 live (sym (ap (λ (j : ℕ). wallet (put_wallet i c x L) j FROZEN) (row_put L.wallets (wallet_count L) i c x c< n0 v)) ∙ e)

  -- row i is not closed, and if it is closed then, it is empty
  leaves_word : Shuts L → wallet L i FROZEN ≢ IS_CLOSED → (wallet (put_wallet i c x L) i FROZEN ≡ IS_CLOSED → Empty (put_wallet i c x L) i)
      → Leaves L (put_wallet i c x L)
  unfolding put_wallet
  leaves_word s live empty = record {
    shuts = λ j h e. go j h e (ℕ_discrete j i);
    count = le_refl (wallet_count L);
    rows = λ j h e d d<. other j d d< (λ q. live (subst (λ (k : ℕ). wallet L k FROZEN ≡ IS_CLOSED) q e));
  }
    where
      other : (j d : ℕ) → d < WALLET_LEN → j ≢ i → wallet (put_wallet i c x L) j d ≡ wallet L j d
      other j d d< ne = word_row L.wallets WALLET_LEN i c x j d c< d< ne

      go : (j : ℕ) → j < wallet_count L → wallet (put_wallet i c x L) j FROZEN ≡ IS_CLOSED → Dec (j ≡ i) → Empty (put_wallet i c x L) j
      go j h e (yes q) = subst (Empty (put_wallet i c x L)) (sym q) (empty (subst (λ (k : ℕ). wallet (put_wallet i c x L) k FROZEN ≡ IS_CLOSED) q e))
      go j h e (no q) =
          let old = s j h (sym (other j FROZEN (lit< tt) q) ∙ e) in
          record {
            balance = other j BALANCE (lit< tt) q ∙ old.balance;
            locked = other j LOCKED (lit< tt) q ∙ old.locked;
            none_to = λ k l o t. old.none_to k l o (t ∙ other j ID (lit< tt) q);
          }

  -- row i is not closed, before and after
  pub leaves_put : Shuts L → wallet L i FROZEN ≢ IS_CLOSED → (FROZEN ≡ c → x ≢ IS_CLOSED) → Leaves L (put_wallet i c x L)
  unfolding put_wallet
  leaves_put s live flag = leaves_word s live (λ e. absurd (go (ℕ_discrete FROZEN c) e))
    where
      go : Dec (FROZEN ≡ c) → wallet (put_wallet i c x L) i FROZEN ≢ IS_CLOSED
      go (yes q) =
          subst (λ (k : ℕ). wallet (put_wallet i c x L) i k ≢ IS_CLOSED) (sym q)
          (put_prop (λ (y : ℕ). y ≢ IS_CLOSED) L.wallets WALLET_LEN i c x i c< (subst (λ (k : ℕ). wallet L i k ≢ IS_CLOSED) q live) (flag q))
      go (no q) = live_put i q live

-- an empty wallet is closed
pub leaves_close : (L : Ledger) (i : ℕ) → Shuts L → wallet L i FROZEN ≢ IS_CLOSED → Empty L i → Leaves L (put_wallet i FROZEN IS_CLOSED L)
unfolding put_wallet
leaves_close L i s live empty =
    let same : (c : ℕ) → c < WALLET_LEN → c ≢ FROZEN → wallet (put_wallet i FROZEN IS_CLOSED L) i c ≡ wallet L i c =
    λ c c< ne. word_col L.wallets WALLET_LEN i FROZEN IS_CLOSED i c (lit< tt) c< ne in
    leaves_word L i FROZEN IS_CLOSED (lit< tt) s live (λ e. record {
      balance = same BALANCE (lit< tt) (omega arith) ∙ empty.balance;
      locked = same LOCKED (lit< tt) (omega arith) ∙ empty.locked;
      none_to = λ k l o t. empty.none_to k l o (t ∙ same ID (lit< tt) (omega arith));
    })

-- credits move from one wallet to another, neither of them closed; and what was not closed is not closed then
module _ (L : Ledger) (c f d v a : ℕ) (c_low : BALANCE ≤ c) (c_high : c ≤ LOCKED) (d_low : BALANCE ≤ d) (d_high : d ≤ LOCKED) where
  pub alive_moved : (w : ℕ) → Alive L w → Alive (raise d v a (lower c f a L)) w
  unfolding raise lower
  alive_moved w live =
      alive_put (lower c f a L) _ d _ (omega arith) w (omega arith) (omega arith) (alive_put L (wallet_row L f) c _ (omega arith) w (omega arith) (omega arith) live)

  pub leaves_moved : Shuts L → Alive L f → Alive L v → Leaves L (raise d v a (lower c f a L))
  unfolding raise lower
  leaves_moved s live_f live_v =
      let K : Ledger = lower c f a L in
      let down : Leaves L K = leaves_put L (wallet_row L f) c _ (omega arith) s live_f (λ q. absurd (omega arith)) in
      let live : Alive K v = alive_put L (wallet_row L f) c _ (omega arith) v (omega arith) (omega arith) live_v in
      leaves_then down (leaves_put K (wallet_row K v) d _ (omega arith) down.shuts live (λ q. absurd (omega arith)))

-- ---- wallets left as they are: no open escrow goes to a closed one

pub leaves_escrows : {L M : Ledger} → M.wallets ≡ L.wallets → wallet_count M ≡ wallet_count L → Shuts L
    → ((i : ℕ) → i < wallet_count L → wallet L i FROZEN ≡ IS_CLOSED
    → (j : ℕ) → j < escrow_count M → eqb (escrow M j ESCROW_STATE) IS_OPEN ≡ true → escrow M j TO ≢ wallet L i ID) → Leaves L M
leaves_escrows {L} {M} w n s none = record {
  shuts = λ i h e.
      let h' : i < wallet_count L = subst (λ (k : ℕ). i < k) n h in
      let e' : wallet L i FROZEN ≡ IS_CLOSED = sym (same i FROZEN) ∙ e in
      record {
        balance = same i BALANCE ∙ (s i h' e').balance;
        locked = same i LOCKED ∙ (s i h' e').locked;
        none_to = λ j l o t. none i h' e' j l o (t ∙ same i ID);
      };
  count = omega arith;
  rows = λ i h e c c<. same i c;
}
  where
    same : (i c : ℕ) → wallet M i c ≡ wallet L i c
    same i c = ap (λ (t : List ℕ). word t WALLET_LEN i c) w

-- wallets and escrows left as they are
pub leaves_tables : {L M : Ledger} → M.wallets ≡ L.wallets → wallet_count M ≡ wallet_count L → M.edition ≡ L.edition → M.escrows ≡ L.escrows
    → escrow_count M ≡ escrow_count L → Shuts L → Leaves L M
leaves_tables {L} {M} w n d t m s =
    leaves_escrows w n s (λ i h e j l o.
    subst (λ (x : ℕ). x ≢ wallet L i ID) (sym (same j TO))
    ((s i h e).none_to j (subst (λ (k : ℕ). j < k) m l) (subst (λ (x : ℕ). eqb x IS_OPEN ≡ true) (same j ESCROW_STATE) o)))
  where
    same : (j c : ℕ) → escrow M j c ≡ escrow L j c
    same j c k = word (t k) (d k).escrow j c

-- a word of the header that is not one of the two counts
pub leaves_head : (k v : ℕ) (L : Ledger) → WALLETS ≢ k → ESCROWS ≢ k → Shuts L → Leaves L (put_head k v L)
unfolding put_head
leaves_head k v L nw ne s = leaves_tables refl (get_or-set_other L.header k WALLETS v 0 nw) refl refl (get_or-set_other L.header k ESCROWS v 0 ne) s

-- a receipt is closed, and a word of it set
pub leaves_receipt : (state now signer i : ℕ) (L : Ledger) → Shuts L → Leaves L (close_receipt state now signer i L)
unfolding close_receipt put_receipt
leaves_receipt state now signer i L s = leaves_tables refl refl refl refl refl s

pub leaves_code : (state now signer i k x : ℕ) (L : Ledger) → Shuts L → Leaves L (put_receipt i k x (close_receipt state now signer i L))
unfolding close_receipt put_receipt
leaves_code state now signer i k x L s = leaves_tables refl refl refl refl refl s

-- a journal row
pub leaves_entry : (vs : List ℕ) (M : Ledger) → Shuts M → Leaves M (new_entry vs M)
unfolding new_entry put_head
leaves_entry vs M s =
    leaves_tables refl (get_or-set_other M.header ENTRIES WALLETS (entry_count M + 1) 0 (omega arith)) refl refl
    (get_or-set_other M.header ENTRIES ESCROWS (entry_count M + 1) 0 (omega arith)) s

-- ---- a new wallet goes behind those that are written, and is not closed

leaves_new : (id : ℕ) (L : Ledger) → 8 ≤ length L.header → wallet_count L < rows_in WALLET_LEN L.wallets → Shuts L
    → Leaves L (new_wallet (blank_wallet id) L)
unfolding new_wallet put_head
leaves_new id L wide place s = record {
  shuts = λ i h. new_or_old (λ (k : ℕ). wallet M k FROZEN ≡ IS_CLOSED → Empty M k) n i (subst (λ (k : ℕ). i < k) count h)
      (λ e. absurd (omega (arith, e, word_new L.wallets WALLET_LEN n FROZEN (blank_wallet id) (room WALLET_LEN n L.wallets place) (lit< tt)))) (old i);
  count = omega (arith, count);
  rows = λ i h e c c<. same i c h c<;
}
  where
    n : ℕ
    n = wallet_count L

    M : Ledger
    M = new_wallet (blank_wallet id) L

    count : wallet_count M ≡ n + 1
    count = get_or-set_same L.header WALLETS (n + 1) 0 (omega (arith, wide))

    same : (i c : ℕ) → i < n → c < WALLET_LEN → wallet M i c ≡ wallet L i c
    same i c h c< = word_old L.wallets WALLET_LEN n i c (blank_wallet id) h c<

    old : (i : ℕ) → i < n → wallet M i FROZEN ≡ IS_CLOSED → Empty M i
    old i h e =
        let x = s i h (sym (same i FROZEN h (lit< tt)) ∙ e) in
        record {
          balance = same i BALANCE h (lit< tt) ∙ x.balance;
          locked = same i LOCKED h (lit< tt) ∙ x.locked;
          none_to = λ j l o t.
              x.none_to j (subst (λ (k : ℕ). j < k) (get_or-set_other L.header WALLETS ESCROWS (n + 1) 0 (omega arith)) l) o (t ∙ same i ID h (lit< tt));
        }

pub leaves_made : (id : ℕ) (L : Ledger) → 8 ≤ length L.header → WalletPlace L id → Shuts L → Leaves L (ensure_wallet id L)
unfolding ensure_wallet
leaves_made id L wide place s = cond_case (Leaves L) (has_wallet L id) L _ (λ h. leaves_same L s) (λ h. leaves_new id L wide (place h) s)

-- ---- a new escrow, to a wallet that is not closed

pub leaves_opened : (s : Submission) (K : Ledger) → 8 ≤ K.edition.escrow → 8 ≤ length K.header → escrow_count K < rows_in K.edition.escrow K.escrows
    → Distinct K.wallets (wallet_count K) → Shuts K → Alive K s.target → Leaves K (new_escrow (escrow_of s) K)
unfolding new_escrow put_head
leaves_opened s K wide header place d shuts live =
    leaves_escrows refl (get_or-set_other K.header ESCROWS WALLETS (n + 1) 0 (omega arith)) shuts
    (λ i h e j l.
    new_or_old (λ (k : ℕ). eqb (word es len k ESCROW_STATE) IS_OPEN ≡ true → word es len k TO ≢ wallet K i ID) n j
    (subst (λ (k : ℕ). j < k) (get_or-set_same K.header ESCROWS (n + 1) 0 (omega (arith, header))) l)
    (λ o t. live (subst (λ (k : ℕ). wallet K k FROZEN ≡ IS_CLOSED) (sym (d i h) ∙ ap (row_of K.wallets (wallet_count K)) (sym t ∙ new)) e))
    (λ m o t. (shuts i h e).none_to j m (subst (λ (x : ℕ). eqb x IS_OPEN ≡ true) (old j ESCROW_STATE m (lit< tt)) o) (sym (old j TO m (lit< tt)) ∙ t)))
  where
    len : ℕ
    len = K.edition.escrow

    n : ℕ
    n = escrow_count K

    es : List ℕ
    es = put_row K.escrows len n (escrow_of s)

    new : word es len n TO ≡ s.target
    new = word_new K.escrows len n TO (escrow_of s) (omega (arith, room len n K.escrows place, wide)) (lit< tt)

    old : (j c : ℕ) → j < n → c < 8 → word es len j c ≡ escrow K j c
    old j c h c< = word_old K.escrows len n j c (escrow_of s) h (omega (arith, wide, c<))

-- ---- whether an escrow to an id is open

pub none_open : (len : ℕ) (es : List ℕ) (n id : ℕ) → open_to len es n id ≡ false
    → (j : ℕ) → j < n → eqb (word es len j ESCROW_STATE) IS_OPEN ≡ true → word es len j TO ≢ id
unfolding open_to
none_open len es n id none j l o t =
    true≢false (sym (some_of n (λ i. eqb (word es len i TO) id && eqb (word es len i ESCROW_STATE) IS_OPEN) j l (and_intro _ _ (eq-eqb _ id t) o)) ∙ none)

some_none : (n : ℕ) (p : ℕ → Bool) → ((i : ℕ) → i < n → p i ≡ false) → some n p ≡ false
unfolding some
some_none zero p h = refl
some_none (suc n) p h = rw (some_none n p (λ i l. h i (omega arith)), h n (omega arith))

not_both : (a b : Bool) → (a ≡ true → b ≡ true → ⊥) → a && b ≡ false
not_both true true h = absurd (h refl refl)
not_both true false h = refl
not_both false b h = refl

pub open_none : (len : ℕ) (es : List ℕ) (n id : ℕ) → ((j : ℕ) → j < n → eqb (word es len j ESCROW_STATE) IS_OPEN ≡ true → word es len j TO ≢ id)
    → open_to len es n id ≡ false
unfolding open_to
open_none len es n id none = some_none n _ (λ j l. not_both _ _ (λ t o. none j l o (eqb-true _ id t)))
