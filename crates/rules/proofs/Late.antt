-- LATE REPLIES. A reply that settles has passed check 41, so a late one is refused. And what is answered 41 has passed the checks that stand before it
-- and not this one: a reply to a pending receipt, by its requester, after its deadline.
use mathlib.Core.Path.{◌≡◌, refl, sym, ◌∙◌}
use mathlib.Core.Bool.{true, ◌&&◌, or-false}
use Prim.Native.Nat.{◌-◌}
use native.Mathlib.Omega.{arith}
use lib.Dec.{ltb}
use borrow.Author.Tests.{eqb-true, ltb-true}
use Rattle.rules.specs.Limits.{ACCEPTANCE_DEADLINE, PENDING}
use Rattle.rules.specs.Ledger.{Ledger, receipt, receipt_count, written}
use Rattle.rules.specs.Record.{read_of}
use Rattle.rules.specs.Refusals.{refusals_by, refusals, entry_refusals, envelope_refusals, operation_refusals_by, one_of, replying, of_receipt}
use Rattle.rules.specs.Submit.{answer_by, answer_of}
use Rattle.rules.specs.Window.{LateRepliesRefused, Late, LateOnly}
use Rattle.rules.specs.declared.Submission.{Submission}
use Rattle.rules.specs.declared.Read.{Read}
use Rattle.rules.proofs.Bools.{and_fst, and_snd, not_false_true}
use Rattle.rules.proofs.Refused.{first_holds, first_passed}
use Rattle.rules.proofs.Calls.{number_is, for_op}
use Rattle.rules.proofs.Passed.{there, reply_in_time}
use Rattle.rules.proofs.Demand12.{refusal_changes_nothing}

pub late_replies_refused : LateRepliesRefused
late_replies_refused L b reply late =
    refusal_changes_nothing L b
    (λ e. let early = reply_in_time L (read_of b) (sym (number_is L b) ∙ e) reply in omega (arith, early, late))

module _ (L : Ledger) (r : Read) (e : answer_of L r ≡ 41) where
  abbrev s : Submission
  s = r.submission

  holds_41 : one_of replying s.op && of_receipt L s.target (ltb (receipt L (s.target - 1) ACCEPTANCE_DEADLINE) s.now) ≡ true
  unfolding answer_by refusals_by entry_refusals envelope_refusals operation_refusals_by
  holds_41 = sym (or-false _) ∙ first_holds (refusals L r) 41 (omega arith) e

  is_reply : one_of replying s.op ≡ true
  is_reply = and_fst (one_of replying s.op) _ holds_41

  is_there : written (receipt_count L) s.target ≡ true
  is_there = and_fst (written (receipt_count L) s.target) _ (and_snd (one_of replying s.op) _ holds_41)

  late_so : Late L r.submission
  unfolding answer_by refusals_by entry_refusals envelope_refusals operation_refusals_by
  late_so = record {
    reply = is_reply;
    there = is_there;
    own = sym (eqb-true s.signer _ (not_false_true _ (there (written (receipt_count L) s.target) _ is_there (for_op s replying _ is_reply (first_passed (refusals L r) 33 41 (omega arith) e refl)))));
    pending = eqb-true _ PENDING (not_false_true _ (there (written (receipt_count L) s.target) _ is_there (for_op s replying _ is_reply (first_passed (refusals L r) 34 41 (omega arith) e refl))));
    late = ltb-true _ _ (and_snd (written (receipt_count L) s.target) _ (and_snd (one_of replying s.op) _ holds_41));
  }

pub late_only : LateOnly
late_only L b e = late_so L (read_of b) (sym (number_is L b) ∙ e)
