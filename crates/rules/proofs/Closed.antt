-- CLOSED WALLETS. A record that names one does not pass check 43; what is answered 42 has passed that, so its target is live. A close sets the frozen word of a written row, and ids stay, so looking its target up finds
-- that row, closed. And a wallet that is closed stays so, empty and with the same row: a submission leaves the
-- closed wallets (ShutStays), so any calls do that do not start afresh; and on a fresh ledger no wallet is written, so none is closed.
use mathlib.Core.Path.{◌≡◌, refl, sym, ap, ◌∙◌, subst}
use mathlib.Core.List.{List, [], ◌∷◌, ◌++◌}
use mathlib.Core.Bool.{true, false, not, true≢false, or-false}
use Prim.Native.Nat.{ℕ, ◌+◌, ◌-◌, ◌<◌}
use native.Mathlib.Omega.{arith}
use lib.ListN.{get_or, set}
use lib.Seq.{get_or-set_other}
use lib.Dec.{eqb, lit<}
use borrow.Author.Tests.{eqb-true, eqb-false}
use Rattle.rules.specs.Limits.{WALLET_LEN, CLOCK, WALLETS, ENTRIES, ID, FROZEN, IS_CLOSED, CAPS, CLOSE}
use Rattle.rules.specs.Table.{word, put}
use Rattle.rules.specs.Ledger.{Ledger, Outcome, wallet, wallet_count, row_of, wallet_row, has_wallet, fresh, put_head, put_wallet, new_entry}
use Rattle.rules.specs.Wallets.{numbered, look_up, is_closed, looked_up}
use Rattle.rules.specs.Record.{read_of}
use Rattle.rules.specs.Sound.{sound}
use Rattle.rules.specs.Refusals.{refusals_by, refusals, entry_refusals, envelope_refusals, operation_refusals_by, one_of, on, signs, targets, not_empty}
use Rattle.rules.specs.Settle.{close, operate_by, enter, settle_by, settle}
use Rattle.rules.specs.Submit.{answer_by, answer_of, submit}
use Rattle.rules.specs.History.{Call, starts_afresh, leaves, says, after, said, unbroken}
use Rattle.rules.specs.Promises.{Lent, started, Refused}
use Rattle.rules.specs.Closed.{ClosedSignerRefused, ClosedTargetRefused, InUse, InUseOnly, CloseCloses, ClosedStays}
use Rattle.rules.specs.declared.Submission.{Submission}
use Rattle.rules.specs.declared.Read.{Read}
use Rattle.rules.specs.declared.WalletNumber.{WalletNumber}
use Rattle.rules.specs.declared.WalletState.{WalletState}
use Rattle.rules.specs.declared.WalletState.TheVariants.{Live, Closed}
use Rattle.rules.proofs.Bools.{and_fst, and_snd, or_none_snd, not_true_false}
use Rattle.rules.proofs.Rows.{zeros, rows_fit, in_table, word_same}
use Rattle.rules.proofs.Tests.{sound_says}
use Rattle.rules.proofs.Formed.{formed_says, read_formed}
use Rattle.rules.proofs.Accounts.{row_hit, row_put, first_row}
use Rattle.rules.proofs.Refused.{first_holds, first_passed}
use Rattle.rules.proofs.Wallets.{look_case}
use Rattle.rules.proofs.LookUp.{ShutRow, shut_says, shut_found, is_closed_lem}
use Rattle.rules.proofs.Calls.{by_left, number_is, settled, for_op}
use Rattle.rules.proofs.Demand12.{refusal_changes_nothing, fresh_case, fresh_refused}
use Rattle.rules.proofs.Lengths.{by_call, lengths_stay, lent_stays, lent_call, lent_started}
use Rattle.rules.proofs.ReplayGuard.{unbroken_parts}
use Rattle.rules.proofs.Passed.{there, target_row, signer_live, target_live}
use Rattle.rules.proofs.SoundAlways.{sound_always}
use Rattle.rules.proofs.Shut.{Empty, Shuts, Leaves, leaves_same, leaves_then, open_none}
use Rattle.rules.proofs.ShutStays.{leaves_settle}

-- ---- a record that names a closed wallet

-- if bytes that settle would need the wallet of id not to be closed, and it is, they are refused
named_refused : (L : Ledger) (b : List ℕ) (id : ℕ) (k : WalletNumber) → looked_up L id ≡ Closed k → (answer_of L (read_of b) ≡ 0 → is_closed L id ≡ false)
    → Refused L b
named_refused L b id k closed live = refusal_changes_nothing L b (λ e. true≢false (sym (is_closed_lem L id k closed) ∙ live (sym (number_is L b) ∙ e)))

pub closed_signer_refused : ClosedSignerRefused
closed_signer_refused L b k t closed = named_refused L b _ k closed (λ z. signer_live L (read_of b) z t)

pub closed_target_refused : ClosedTargetRefused
closed_target_refused L b k t closed = named_refused L b _ k closed (λ z. target_live L (read_of b) z t)

-- ---- a close that is refused

-- a wallet that is there and not closed is found live
found_live : (L : Ledger) (id : ℕ) → has_wallet L id ≡ true → is_closed L id ≡ false → looked_up L id ≡ Live (numbered (wallet_row L id))
found_live L id h c =
    look_case (λ (x : WalletState). x ≡ Live (numbered (wallet_row L id))) L.wallets (wallet_count L) id (λ m. absurd (true≢false (sym h ∙ m))) (λ m q. refl)
    (λ m q. absurd (true≢false (sym q ∙ there (has_wallet L id) _ h c)))

-- what is answered 42 has passed check 43, and not this one
module _ (L : Ledger) (r : Read) (e : answer_of L r ≡ 42) where
  holds_42 : on r.submission (CLOSE ∷ []) (not_empty L r.submission.target) ≡ true
  unfolding answer_by refusals_by entry_refusals envelope_refusals operation_refusals_by
  holds_42 = sym (or-false _) ∙ first_holds (refusals L r) 42 (omega arith) e

  is_close : r.submission.op ≡ CLOSE
  is_close = eqb-true r.submission.op CLOSE (sym (or-false _) ∙ and_fst (one_of (CLOSE ∷ []) r.submission.op) _ holds_42)

  in_use : InUse L r.submission
  unfolding answer_by refusals_by entry_refusals envelope_refusals operation_refusals_by
  in_use =
      let s : Submission = r.submission in
      let used = and_snd (one_of (CLOSE ∷ []) s.op) _ holds_42 in
      let alive = for_op s targets (is_closed L s.target) (ap (one_of targets) is_close)
      (or_none_snd (on s signs (is_closed L s.signer)) _ (first_passed (refusals L r) 43 42 (omega arith) e refl)) in
      record { closes = is_close; live = found_live L s.target (and_fst (has_wallet L s.target) _ used) alive; used = used }

pub in_use_only : InUseOnly
in_use_only L b e = in_use L (read_of b) (sym (number_is L b) ∙ e)

-- ---- a close

-- the wallets that it leaves: one word is set, and there are as many
close_wallets : (s : Submission) (L : Ledger) → s.op ≡ CLOSE
    → (settle s L).after.wallets ≡ put L.wallets WALLET_LEN (wallet_row L s.target) FROZEN IS_CLOSED
unfolding settle_by operate_by close enter new_entry put_head put_wallet
close_wallets s L e = rw e

close_count : (s : Submission) (L : Ledger) → s.op ≡ CLOSE → wallet_count (settle s L).after ≡ wallet_count L
unfolding settle_by operate_by close enter new_entry put_head put_wallet
close_count s L e =
    let clock = set L.header CLOCK s.now in
    rw e (get_or-set_other clock ENTRIES WALLETS (get_or clock ENTRIES 0 + 1) 0 (omega arith) ∙ get_or-set_other L.header CLOCK WALLETS s.now 0 (omega arith))

pub close_closes : CloseCloses
close_closes L b z e =
    by_left (λ (K : Ledger). looked_up K id ≡ Closed (numbered i)) L b
    (λ z'.
    (λ k. look_up (close_wallets s L e k) (close_count s L e k) id) ∙ shut_found t (wallet_count L) id (numbered i) (found_closed z'))
    (λ ne. absurd (ne (sym (number_is L b) ∙ z)))
  where
    s : Submission
    s = (read_of b).submission

    id : ℕ
    id = s.target

    i : ℕ
    i = wallet_row L id

    t : List ℕ
    t = put L.wallets WALLET_LEN i FROZEN IS_CLOSED

    row : row_of t (wallet_count L) id ≡ i
    row = row_put L.wallets (wallet_count L) i FROZEN IS_CLOSED (lit< tt) (omega arith) id

    found_closed : answer_of L (read_of b) ≡ 0 → ShutRow t (wallet_count L) id (numbered i)
    found_closed z' =
        let found = target_row L (read_of b) z' (ap (one_of (CAPS ∷ CLOSE ∷ [])) e) in
        let within = rows_fit WALLET_LEN (wallet_count L) L.wallets (sound_says L (settled L (read_of b) z').is_sound).header.within.wallets in
        let j : i ≡ i + 1 - 1 = omega arith in
        record {
          found = subst (λ (r : ℕ). r < wallet_count L) (sym row) found;
          number = ap (λ (r : ℕ). r + 1) row;
          frozen = subst (λ (k : ℕ). word t WALLET_LEN k FROZEN ≡ IS_CLOSED) j
              (word_same L.wallets WALLET_LEN i FROZEN IS_CLOSED (in_table WALLET_LEN (wallet_count L) i FROZEN L.wallets within found (lit< tt)));
        }

-- ---- any calls

-- a submission, settled or refused
leaves_submit : (L : Ledger) → Lent L → Shuts L → (b : List ℕ) → Leaves L (submit L b).left
leaves_submit L lent s b =
    by_left (Leaves L) L b
    (λ e. leaves_settle L (read_of b) e (formed_says (read_of b).submission (read_formed b (settled L (read_of b) e).formed)) lent s) (λ e. leaves_same L s)

-- a fresh ledger has no wallet
shuts_started : (L : Ledger) → Lent L → Shuts (started L)
shuts_started L lent =
    fresh_case (λ (o : Outcome). Shuts o.left) L (λ e i h. absurd (none i (subst (λ (n : ℕ). i < n) (zeros (L.edition.header - 1) (WALLETS - 1)) h)))
    (λ e. absurd (true≢false (sym lent.lengths ∙ e)))
  where
    none : (i : ℕ) → i < 0 → ⊥
    none i l = omega arith

-- so closed wallets are empty after any calls, starts afresh too
shuts_after : (L : Ledger) → Lent L → Shuts L → (calls : List Call) → Shuts (after L calls)
shuts_after L lent s [] = s
shuts_after L lent s (c ∷ cs) =
    shuts_after (leaves L c) (lent_call L lent c) (by_call Shuts L s (λ b. (leaves_submit L lent s b).shuts) c (λ e. shuts_started L lent)) cs

-- a start afresh that is refused leaves the ledger
leaves_started : (L : Ledger) → Shuts L → unbroken (says L starts_afresh) ≡ true → Leaves L (started L)
leaves_started L s u =
    subst (Leaves L) (sym (fresh_refused L (eqb-false (fresh L).number 0 (not_true_false (eqb (fresh L).number 0) (and_fst (not (eqb (fresh L).number 0)) true u)))))
    (leaves_same L s)

-- and left as they are after calls that do not start afresh
leaves_after : (L : Ledger) → Lent L → Shuts L → (calls : List Call) → unbroken (said L calls) ≡ true → Leaves L (after L calls)
leaves_after L lent s [] u = leaves_same L s
leaves_after L lent s (c ∷ cs) u =
    let both = unbroken_parts (says L c) (said (leaves L c) cs) u in
    let a : Leaves L (leaves L c) =
    by_call (Leaves L) L (leaves_same L s) (leaves_submit L lent s) c (λ e. leaves_started L s (subst (λ (d : Call). unbroken (says L d) ≡ true) e both.0)) in
    leaves_then a (leaves_after (leaves L c) (lent_call L lent c) a.shuts cs both.1)

-- calls, and then others
after_both : (L : Ledger) (xs ys : List Call) → after L (xs ++ ys) ≡ after (after L xs) ys
after_both L [] ys = refl
after_both L (c ∷ xs) ys = after_both (leaves L c) xs ys

-- ---- the theorem

pub closed_stays : ClosedStays
closed_stays L lent calls further id k closed u = record {
  closed = shut_found M.wallets (wallet_count M) id k (record {
    found = omega (arith, row_M, i<, a.count);
    number = omega (arith, row_M, was.number);
    frozen = same FROZEN (lit< tt) ∙ was.frozen;
  });
  balance = empty.balance;
  locked = empty.locked;
  nothing_to_it = open_none _ _ _ id (λ j l o t. empty.none_to j l o (t ∙ sym id_M));
  same_row = same;
}
  where
    N : Ledger
    N = after (started L) calls

    M : Ledger
    M = after N further

    lent_N : Lent N
    lent_N = lent_stays (lengths_stay (started L) (lent_started L lent).header calls) (lent_started L lent)

    a : Leaves N M
    a = leaves_after N lent_N (shuts_after (started L) (lent_started L lent) (shuts_started L lent) calls) further u

    sound_M : sound M ≡ true
    sound_M = subst (λ (K : Ledger). sound K ≡ true) (after_both (started L) calls further) (sound_always L lent (calls ++ further))

    was : ShutRow N.wallets (wallet_count N) id k
    was = shut_says N.wallets (wallet_count N) id k closed

    -- its row, which is written
    i : ℕ
    i = k.0 - 1

    row : wallet_row N id ≡ i
    row = omega (arith, was.number)

    i< : i < wallet_count N
    i< = omega (arith, row, was.found)

    same : (c : ℕ) → c < WALLET_LEN → wallet M i c ≡ wallet N i c
    same = a.rows i i< was.frozen

    empty : Empty M i
    empty = a.shuts i (omega (arith, i<, a.count)) (same FROZEN (lit< tt) ∙ was.frozen)

    id_M : wallet M i ID ≡ id
    id_M = same ID (lit< tt) ∙ sym (ap (λ (j : ℕ). wallet N j ID) row) ∙ row_hit N.wallets (wallet_count N) id was.found

    -- ids are distinct, so it is found there
    row_M : wallet_row M id ≡ i
    row_M = first_row M.wallets (wallet_count M) id i (sound_says M sound_M).apart (omega (arith, i<, a.count)) id_M
