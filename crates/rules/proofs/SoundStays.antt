-- Each operation keeps a good ledger good: what its refusals have passed meets what the laws of its tables ask.
use mathlib.Core.Path.{◌≡◌, refl, sym, ap, ◌∙◌, subst, subst₃}
use mathlib.Core.Logic.{◌≢◌}
use mathlib.Core.List.{List, [], ◌∷◌}
use mathlib.Core.Bool.{Bool, true, false}
use Prim.Native.Nat.{ℕ, ◌+◌, ◌-◌, ◌≤◌, ◌<◌}
use native.Mathlib.Omega.{arith}
use lib.ListN.{get_or, length}
use lib.Seq.{get_or-set_same, get_or-set_other}
use lib.Dec.{eqb, lit<, lit≤}
use borrow.Author.Tests.{eqb-true, eqb-false}
use Rattle.rules.specs.Limits.{WALLET_LEN, SYSTEM_FROZEN, GRANTED, WALLETS, ESCROWS, RECEIPTS, BALANCE, LOCKED, FROZEN, TX_CAP, DAILY_CAP, IS_CLOSED}
use Rattle.rules.specs.Limits.{IS_OPEN, RELEASED, REFUNDED, PENDING, DISPUTED, AUTO_OR_FREEZE}
use Rattle.rules.specs.Limits.{GRANT, TRANSFER, OPEN, CLAIM}
use Rattle.rules.specs.Table.{put, rows_in}
use Rattle.rules.specs.Ledger.{Edition, Ledger, head, wallet_count, escrow_count, receipt_count, wallet_row, put_head, put_wallet, new_escrow, new_receipt}
use Rattle.rules.specs.Record.{bit}
use Rattle.rules.specs.Refusals.{one_of, paying, closing, replying}
use Rattle.rules.specs.Settle.{raise, lower, ensure_wallet, end_escrow, operations, idle, operate_by, operate, grant, transfer, open_escrow, release, refund, claim, accept, dispute, sweep, freeze, caps, close, Done}
use Rattle.rules.specs.Submit.{answer_of}
use Rattle.rules.specs.declared.Submission.{Submission}
use Rattle.rules.specs.declared.Read.{Read}
use Rattle.rules.proofs.Bools.{cond_case}
use Rattle.rules.proofs.Rows.{rows_fit}
use Rattle.rules.proofs.Formed.{Formed}
use Rattle.rules.proofs.Accounts.{bal, bal_found, bal_put_col, total_put_col}
use Rattle.rules.proofs.Moves.{up, mv, up_bal, up_total, mv_bal, mv_total}
use Rattle.rules.proofs.Good.{GoodTables, Good, good_of}
use Rattle.rules.proofs.GoodRows.{moved_put, moved_then, moved_tables, open_tables, claim_tables}
use Rattle.rules.proofs.Stays.{kept_end, kept_close, kept_accept, kept_sweep}
use Rattle.rules.proofs.Ensured.{Ensured, ensured}
use Rattle.rules.proofs.Calls.{settled, by_op, by_reply}
use Rattle.rules.proofs.Passed.{amount_low, amount_high, sender_row, sender_has, target_some, target_other, escrow_row, escrow_open, link_written}
use Rattle.rules.proofs.Passed.{written_row, link_from, link_to, receipt_row, grant_within, wallet_place, escrow_place, receipt_place}

-- tables that are good with the counts and the total that the header has
pub good_counts : (K : Ledger) (nw g ne nr : ℕ) → wallet_count K ≡ nw → head K GRANTED ≡ g → escrow_count K ≡ ne → receipt_count K ≡ nr
    → GoodTables K.wallets nw g K.escrows K.edition.escrow ne K.receipts nr → Good K
good_counts K nw g ne nr a b c d good =
    subst (λ (x : ℕ). GoodTables K.wallets (wallet_count K) x K.escrows K.edition.escrow (escrow_count K) K.receipts (receipt_count K)) (sym b)
    (subst₃ (λ (x y z : ℕ). GoodTables K.wallets x g K.escrows K.edition.escrow y K.receipts z) (sym a) (sym c) (sym d) good)

-- a word of the header that is no count and not the total
pub good_head : (k v : ℕ) (L : Ledger) → WALLETS ≢ k → GRANTED ≢ k → ESCROWS ≢ k → RECEIPTS ≢ k → Good L → Good (put_head k v L)
unfolding put_head
good_head k v L nw g ne nr good =
    good_counts (put_head k v L) (wallet_count L) (head L GRANTED) (escrow_count L) (receipt_count L) (get_or-set_other L.header k WALLETS v 0 nw)
    (get_or-set_other L.header k GRANTED v 0 g) (get_or-set_other L.header k ESCROWS v 0 ne) (get_or-set_other L.header k RECEIPTS v 0 nr) good

-- a word of a wallet behind its credits: frozen, and the caps
good_word : (i c x : ℕ) (L : Ledger) → LOCKED < c → c < WALLET_LEN → (FROZEN ≡ c → x ≤ IS_CLOSED) → Good L → Good (put_wallet i c x L)
unfolding put_wallet
good_word i c x L low high flag good =
    moved_tables L.wallets (wallet_count L) (head L GRANTED) L.escrows L.edition.escrow (escrow_count L) L.receipts (receipt_count L)
    (put L.wallets WALLET_LEN i c x) (head L GRANTED) good (moved_put L.wallets (wallet_count L) i c x high (omega arith) flag)
    (λ v. bal_put_col L.wallets (wallet_count L) i c x high (omega arith) v LOCKED (lit< tt) (omega arith))
    (total_put_col L.wallets (wallet_count L) i c x high low ∙ good.totals) good.most

module _ (L : Ledger) (r : Read) (z : answer_of L r ≡ 0) (form : Formed r.submission) (wide : 8 ≤ L.edition.escrow) (head_wide : 8 ≤ length L.header) where
  abbrev s : Submission
  s = r.submission

  good_L : Good L
  good_L = good_of L wide (settled L r z).is_sound

  -- the target's wallet is there, or is made
  K : Ledger
  K = ensure_wallet s.target L

  made : one_of (GRANT ∷ TRANSFER ∷ OPEN ∷ []) s.op ≡ true → one_of (GRANT ∷ TRANSFER ∷ OPEN ∷ CLAIM ∷ []) s.op ≡ true → Ensured L K s.target
  unfolding K
  made t u = ensured L s.target good_L head_wide (omega (arith, target_some L r z u)) (wallet_place L r z t)

  -- the sender's wallet has the amount, also then
  enough : Ensured L K s.target → one_of paying s.op ≡ true → s.amount ≤ bal K.wallets (wallet_count K) s.signer BALANCE
  enough en t =
      omega (arith, en.same s.signer BALANCE (lit< tt) refl, bal_found L.wallets (wallet_count L) s.signer BALANCE (sender_row L r z t), sender_has L r z t)

  good_grant : s.op ≡ GRANT → Good (grant s L).after
  unfolding grant raise put_wallet put_head K
  good_grant e =
      let en = made (ap (one_of (GRANT ∷ TRANSFER ∷ OPEN ∷ [])) e) (ap (one_of (GRANT ∷ TRANSFER ∷ OPEN ∷ CLAIM ∷ [])) e) in
      let v : ℕ = head L GRANTED + s.amount in
      let fits = rows_fit WALLET_LEN (wallet_count K) K.wallets en.good.wallets_in in
      good_counts (grant s L).after (wallet_count K) v (escrow_count K) (receipt_count K) (get_or-set_other K.header GRANTED WALLETS v 0 (omega arith))
      (get_or-set_same K.header GRANTED v 0 (omega (arith, en.header))) (get_or-set_other K.header GRANTED ESCROWS v 0 (omega arith))
      (get_or-set_other K.header GRANTED RECEIPTS v 0 (omega arith))
      (moved_tables K.wallets (wallet_count K) (head K GRANTED) K.escrows K.edition.escrow (escrow_count K) K.receipts (receipt_count K)
      (up K.wallets (wallet_count K) BALANCE s.target s.amount) v en.good
      (moved_put K.wallets (wallet_count K) _ BALANCE _ (lit< tt) (omega arith) (λ q. absurd (omega arith)))
      (λ w. omega (arith, up_bal K.wallets (wallet_count K) BALANCE s.target s.amount (lit< tt) (omega arith) fits en.found LOCKED w (lit< tt)))
      (omega (arith, up_total K.wallets (wallet_count K) BALANCE s.target s.amount (lit≤ tt) (lit≤ tt) fits en.found, en.good.totals, en.others GRANTED (omega arith)))
      (grant_within L r z (ap (one_of (GRANT ∷ [])) e)))

  good_transfer : s.op ≡ TRANSFER → Good (transfer s L).after
  unfolding transfer raise lower put_wallet K
  good_transfer e =
      let en = made (ap (one_of (GRANT ∷ TRANSFER ∷ OPEN ∷ [])) e) (ap (one_of (GRANT ∷ TRANSFER ∷ OPEN ∷ CLAIM ∷ [])) e) in
      let t : one_of paying s.op ≡ true = ap (one_of paying) e in
      let fits = rows_fit WALLET_LEN (wallet_count K) K.wallets en.good.wallets_in in
      let from = en.keeps s.signer (sender_row L r z t) in
      moved_tables K.wallets (wallet_count K) (head K GRANTED) K.escrows K.edition.escrow (escrow_count K) K.receipts (receipt_count K)
      (mv K.wallets (wallet_count K) BALANCE s.signer BALANCE s.target s.amount) (head K GRANTED) en.good
      (moved_then (moved_put K.wallets (wallet_count K) _ BALANCE _ (lit< tt) (omega arith) (λ q. absurd (omega arith)))
      (moved_put _ (wallet_count K) _ BALANCE _ (lit< tt) (omega arith) (λ q. absurd (omega arith))))
      (λ w. omega (
        arith,
        mv_bal K.wallets (wallet_count K) BALANCE s.signer BALANCE s.target s.amount (lit≤ tt) (lit≤ tt) (lit≤ tt) (lit≤ tt) fits from en.found (enough en t) LOCKED w (lit< tt),
      ))
      (mv_total K.wallets (wallet_count K) BALANCE s.signer BALANCE s.target s.amount (lit≤ tt) (lit≤ tt) (lit≤ tt) (lit≤ tt) fits from en.found (enough en t) ∙ en.good.totals)
      en.good.most

  good_open : s.op ≡ OPEN → Good (open_escrow s L).after
  unfolding open_escrow raise lower put_wallet new_escrow put_head K
  good_open e =
      let en = made (ap (one_of (GRANT ∷ TRANSFER ∷ OPEN ∷ [])) e) (ap (one_of (GRANT ∷ TRANSFER ∷ OPEN ∷ CLAIM ∷ [])) e) in
      let t : one_of paying s.op ≡ true = ap (one_of paying) e in
      let v : ℕ = escrow_count K + 1 in
      good_counts (open_escrow s L).after (wallet_count K) (head K GRANTED) v (receipt_count K) (get_or-set_other K.header ESCROWS WALLETS v 0 (omega arith))
      (get_or-set_other K.header ESCROWS GRANTED v 0 (omega arith)) (get_or-set_same K.header ESCROWS v 0 (omega (arith, en.header)))
      (get_or-set_other K.header ESCROWS RECEIPTS v 0 (omega arith))
      (open_tables K.wallets (wallet_count K) (head K GRANTED) K.escrows K.edition.escrow (escrow_count K) K.receipts (receipt_count K) en.good
      s.signer s.target s.amount s.until s.now
      (subst₃ (λ (d : Edition) (n : ℕ) (l : List ℕ). n < rows_in d.escrow l) (sym en.edition) (sym (en.others ESCROWS (omega arith))) (sym en.escrows)
      (escrow_place L r z (ap (one_of (OPEN ∷ [])) e)))
      (en.keeps s.signer (sender_row L r z t)) en.found (λ q. target_other L r z (ap (one_of (TRANSFER ∷ OPEN ∷ CLAIM ∷ [])) e) (sym q))
      (amount_low L r z (ap (one_of (GRANT ∷ TRANSFER ∷ OPEN ∷ [])) e)) (amount_high L r z (ap (one_of (GRANT ∷ TRANSFER ∷ OPEN ∷ [])) e)) (enough en t)
      form.until_right form.now_right)

  good_claim : s.op ≡ CLAIM → Good (claim s L).after
  unfolding claim new_receipt put_head
  good_claim e =
      let t : one_of (CLAIM ∷ []) s.op ≡ true = ap (one_of (CLAIM ∷ [])) e in
      let v : ℕ = receipt_count L + 1 in
      let vs : List ℕ =
      s.signer ∷ s.target ∷ s.link ∷ s.until ∷ bit AUTO_OR_FREEZE s.flags ∷ PENDING ∷ s.now ∷ 0 ∷ 0 ∷ 0 ∷ s.hash0 ∷ s.hash1 ∷ s.hash2 ∷ s.hash3 ∷ [] in
      let auto : bit AUTO_OR_FREEZE s.flags ≤ 1 = omega arith in
      good_counts (claim s L).after (wallet_count L) (head L GRANTED) (escrow_count L) v (get_or-set_other L.header RECEIPTS WALLETS v 0 (omega arith))
      (get_or-set_other L.header RECEIPTS GRANTED v 0 (omega arith)) (get_or-set_other L.header RECEIPTS ESCROWS v 0 (omega arith))
      (get_or-set_same L.header RECEIPTS v 0 (omega arith))
      (claim_tables L.wallets (wallet_count L) (head L GRANTED) L.escrows L.edition.escrow (escrow_count L) L.receipts (receipt_count L) good_L vs
      refl (receipt_place L r z t) form.until_right form.now_right (lit≤ tt) auto (lit≤ tt, lit≤ tt) (link_le t (eqb s.link 0) refl)
      (link_from L r z t) (link_to L r z t))
    where
      link_le : one_of (CLAIM ∷ []) s.op ≡ true → (b : Bool) → eqb s.link 0 ≡ b → s.link ≤ escrow_count L
      link_le t true q = omega (arith, eqb-true s.link 0 q)
      link_le t false q = let l = written_row (escrow_count L) s.link (link_written L r z t (eqb-false s.link 0 q)) in omega (arith, l)

  good_freeze : Good (freeze s L).after
  unfolding freeze
  good_freeze =
      cond_case Good (eqb s.target 0) (put_head SYSTEM_FROZEN (bit AUTO_OR_FREEZE s.flags) L) _
      (λ e. good_head SYSTEM_FROZEN (bit AUTO_OR_FREEZE s.flags) L (omega arith) (omega arith) (omega arith) (omega arith) good_L)
      (λ e. good_word (wallet_row L s.target) FROZEN (bit AUTO_OR_FREEZE s.flags) L (lit< tt) (lit< tt) (λ q. omega arith) good_L)

  good_caps : Good (caps s L).after
  unfolding caps
  good_caps =
      let i : ℕ = wallet_row L s.target in
      good_word i DAILY_CAP s.link (put_wallet i TX_CAP s.amount L) (lit< tt) (lit< tt) (λ q. absurd (omega arith))
      (good_word i TX_CAP s.amount L (lit< tt) (lit< tt) (λ q. absurd (omega arith)) good_L)

  good_close : Good (close s L).after
  unfolding close
  good_close = good_word (wallet_row L s.target) FROZEN IS_CLOSED L (lit< tt) (lit< tt) (λ q. lit≤ tt) good_L

  good_end : one_of closing s.op ≡ true → (state : ℕ) → eqb state IS_OPEN ≡ false → (1 ≤ state) × (state ≤ 4) → Good (end_escrow state s.now s.signer (s.target - 1) L)
  good_end t state c st = (kept_end L good_L (s.target - 1) (escrow_row L r z t) (escrow_open L r z t) state s.now s.signer c st form.now_right).good

  pub good_operate : Good (operate s L).after
  unfolding operate_by release refund accept dispute sweep
  good_operate =
      by_op (λ (o : ℕ). Good (get_or operations (o - 1) idle s L).after) s.op form.low form.high form.not_8 good_grant good_transfer good_open
      (λ e. good_end (ap (one_of closing) e) RELEASED refl (lit≤ tt, lit≤ tt)) (λ e. good_end (ap (one_of closing) e) REFUNDED refl (lit≤ tt, lit≤ tt)) good_claim
      (λ e.
      by_reply (λ (d : Done). Good d.after) s L
      (λ h. (kept_close L good_L (s.target - 1) DISPUTED s.now s.signer (lit≤ tt, lit≤ tt) form.now_right).good)
      (λ h. (kept_accept L good_L (s.target - 1) (receipt_row L r z (ap (one_of replying) e)) s.now s.signer form.now_right).good))
      (λ e. (kept_sweep L s.now form.now_right good_L s.amount).good) (λ e. good_freeze) (λ e. good_caps) (λ e. good_close)
