-- Demands 1 and 2 of `submit`, from the laws of the refusals and of one call; and demand 1 of the other public calls, by the cases of their
-- definitions.
use mathlib.Core.Path.{◌≡◌, refl, sym, ap, ◌∙◌, subst}
use mathlib.Core.Logic.{◌≢◌, ◌⊎◌, inl, inr}
use mathlib.Core.List.{List, []}
use mathlib.Core.Bool.{Bool, true, false, not, ◌&&◌, true≢false}
use Prim.Native.Nat.{ℕ, ◌-◌, ◌*◌, ◌≤◌}
use native.Mathlib.Omega.{arith}
use lib.ListN.{get_or, length, take, drop, length-take, length-drop}
use lib.Seq.{drop-length, take-nil}
use lib.Dec.{eqb, lit≤}
use borrow.Author.Tests.{ltb-true}
use Rattle.rules.specs.Limits.{RECORD_BYTES, WALLETS, ESCROWS, RECEIPTS, WALLET_LEN, RECEIPT_LEN, MAX_WALLETS, MAX_ESCROWS, MAX_RECEIPTS, LAST_ANSWER}
use Rattle.rules.specs.Table.{rows_in}
use Rattle.rules.specs.Ledger.{Edition, Ledger, Outcome, outcome, row_of, written, lengths_right, fresh, fresh_header, set_header}
use Rattle.rules.specs.Record.{well_formed, encode, accepted, decode, read_by, read_of, nothing, Written, write_of}
use Rattle.rules.specs.Refusals.{refusals}
use Rattle.rules.specs.Settle.{settle}
use Rattle.rules.specs.Submit.{answer_by, answer_of}
use Rattle.rules.specs.Lookup.{count_right, row_place, part_at, wallet_state}
use Rattle.rules.specs.Wallets.{look_up, standing_of}
use Rattle.rules.specs.Promises.{started, IsFirst, OnTheList, RefusalChangesNothing, SomeAreLent, FreshAnswers, ReadAnswers, WriteAnswers}
use Rattle.rules.specs.Promises.{Stands, PartAnswers, SettlesExactly, FirstRefusal, LaidDown}
use Rattle.rules.specs.declared.Read.{Read}
use Rattle.rules.specs.declared.WalletState.{WalletState}
use Rattle.rules.specs.declared.WalletState.TheVariants.{Missing}
use Rattle.rules.proofs.Bools.{and_fst, cond_case}
use Rattle.rules.proofs.Wallets.{look_case}
use Rattle.rules.proofs.Places.{count_within, row_whole}
use Rattle.rules.proofs.Refused.{first_most, first_of, none_of_zero, zero_of_none, table_most, table_numbered}
use Rattle.rules.proofs.Calls.{by_answer, number_is}

-- ---- demand 1

pub on_the_list : OnTheList
unfolding answer_by
on_the_list L b = subst (λ (n : ℕ). n ≤ LAST_ANSWER) (sym (number_is L b)) (first_most LAST_ANSWER (refusals L (read_of b)) (table_most L (read_of b)))

pub refusal_changes_nothing : RefusalChangesNothing
refusal_changes_nothing L b ne = record {
  number = ne;
  word = by_answer (λ (o : Outcome). o.word ≡ 0) L b (λ e. absurd (refused e)) (λ e. refl);
  left = by_answer (λ (o : Outcome). o.left ≡ L) L b (λ e. absurd (refused e)) (λ e. refl);
}
  where
    refused : answer_of L (read_of b) ≢ 0
    refused e = ne (number_is L b ∙ e)

-- a start afresh, by its two cases
pub fresh_case : (P : Outcome → Type 0) (L : Ledger) → (lengths_right L ≡ true → P (outcome 0 0 (set_header (fresh_header L.edition) L)))
    → (lengths_right L ≡ false → P (outcome 1 0 L)) → P (fresh L)
unfolding fresh
fresh_case P L = cond_case P (lengths_right L) (outcome 0 0 (set_header (fresh_header L.edition) L)) (outcome 1 0 L)

pub fresh_answers : FreshAnswers
fresh_answers L =
    fresh_case
    (λ (o : Outcome). ((lengths_right L ≡ true) × (o ≡ outcome 0 0 (set_header (fresh_header L.edition) L))) ⊎ ((lengths_right L ≡ false) × (o ≡ outcome 1 0 L)))
    L (λ e. inl (e, refl)) (λ e. inr (e, refl))

-- so the lengths are right exactly if the answer is 0, and otherwise nothing changes
pub fresh_right : (L : Ledger) → (fresh L).number ≡ 0 → lengths_right L ≡ true
fresh_right L = fresh_case (λ (o : Outcome). o.number ≡ 0 → lengths_right L ≡ true) L (λ e z. e) (λ e z. absurd (omega (arith, z)))

pub fresh_zero : (L : Ledger) → lengths_right L ≡ true → (fresh L).number ≡ 0
fresh_zero L h = fresh_case (λ (o : Outcome). o.number ≡ 0) L (λ e. refl) (λ e. absurd (true≢false (sym h ∙ e)))

pub fresh_wrong : (L : Ledger) → lengths_right L ≡ false → fresh L ≡ outcome 1 0 L
fresh_wrong L h = fresh_case (λ (o : Outcome). o ≡ outcome 1 0 L) L (λ e. absurd (true≢false (sym e ∙ h))) (λ e. refl)

pub fresh_refused : (L : Ledger) → (fresh L).number ≢ 0 → started L ≡ L
fresh_refused L = fresh_case (λ (o : Outcome). o.number ≢ 0 → o.left ≡ L) L (λ e n. absurd (n refl)) (λ e n. refl)

pub some_are_lent : SomeAreLent
unfolding lengths_right
some_are_lent = record { lengths = refl; header = lit≤ tt; escrow = lit≤ tt }

pub read_answers : ReadAnswers
unfolding read_by
read_answers b =
    cond_case (λ (r : Read). (r.number ≡ 0) ⊎ ((r.number ≡ 3) × (r.submission ≡ nothing))) (accepted b)
    (record { number = 0; submission = decode b }) (record { number = 3; submission = nothing }) (λ e. inl refl) (λ e. inr (refl, refl))

pub write_answers : WriteAnswers
unfolding write_of
write_answers s out =
    cond_case (λ (w : Written). (w.number ≡ 0) ⊎ ((w.number ≡ 3) × (w.out ≡ out))) (eqb (length out) RECORD_BYTES && well_formed s)
    (record { number = 0; out = encode s }) (record { number = 3; out = out }) (λ e. inl refl) (λ e. inr (refl, refl))

-- the part of a table from a place on is empty at the table's end, and whole where a row starts
part_or_none : (header_len c len most : ℕ) (header t : List ℕ) (k : ℕ)
    → (part_at len t (row_place header_len c len most header t k) ≡ []) ⊎ (length (part_at len t (row_place header_len c len most header t k)) ≡ len)
unfolding row_place
part_or_none header_len c len most header t k =
    cond_case (λ (p : ℕ). (part_at len t p ≡ []) ⊎ (length (part_at len t p) ≡ len))
    (count_right header_len c len most header t && written (get_or header c 0) k) ((k - 1) * len) (length t)
    (λ e. let r = row_whole header_len c len most header t k e in inr (omega (arith, r, length-take len (drop ((k - 1) * len) t), length-drop ((k - 1) * len) t)))
    (λ e. inl (ap (take len) (drop-length t) ∙ take-nil len))

-- a wallet is missing, or one of the written rows, which are within the table
stands : (e : Edition) (header t : List ℕ) (id : ℕ) → Stands (rows_in WALLET_LEN t) (standing_of (wallet_state e header t id))
unfolding wallet_state
stands e header t id =
    cond_case (λ (x : WalletState). Stands (rows_in WALLET_LEN t) (standing_of x)) (right && not (eqb id 0)) (look_up t n id) Missing
    (λ h.
    let fits = count_within e.header WALLETS WALLET_LEN MAX_WALLETS header t (and_fst right (not (eqb id 0)) h) in
    look_case (λ (x : WalletState). Stands (rows_in WALLET_LEN t) (standing_of x)) t n id (λ m. inl (refl, refl))
    (λ l o. inr (inl refl, omega arith, omega (arith, fits, ltb-true (row_of t n id) n l)))
    (λ l c. inr (inr refl, omega arith, omega (arith, fits, ltb-true (row_of t n id) n l))))
    (λ h. inl (refl, refl))
  where
    n : ℕ
    n = get_or header WALLETS 0

    right : Bool
    right = count_right e.header WALLETS WALLET_LEN MAX_WALLETS header t

pub part_answers : PartAnswers
part_answers e header t k = (
  part_or_none e.header ESCROWS e.escrow MAX_ESCROWS header t k,
  part_or_none e.header RECEIPTS RECEIPT_LEN MAX_RECEIPTS header t k,
  stands e header t k,
)

-- ---- demand 2

pub settles_exactly : SettlesExactly
unfolding answer_by
settles_exactly L b = (
  (λ e. none_of_zero (refusals L (read_of b)) (table_numbered L (read_of b)) (sym (number_is L b) ∙ e)),
  (λ e. number_is L b ∙ zero_of_none (refusals L (read_of b)) e),
)

pub first_refusal : FirstRefusal
unfolding answer_by
first_refusal L b ne =
    subst (λ (n : ℕ). IsFirst n (refusals L (read_of b))) (sym (number_is L b)) (first_of (refusals L (read_of b)) (λ e. ne (number_is L b ∙ e)))

pub laid_down : LaidDown
laid_down L b e =
    by_answer (λ (o : Outcome). o ≡ outcome 0 (settle (read_of b).submission L).word (settle (read_of b).submission L).after) L b (λ z. refl)
    (λ ne. absurd (ne (sym (number_is L b) ∙ e)))
