-- THE PROMISES of document 02, request 2: what the daily cap counts. Their proofs stand in proofs/, under the same names in small letters.
use Rattle.std.specs.Prelude.{◌≡◌, List, [], ◌∷◌, cond, ℕ, ◌+◌, ◌≤◌, eqb, leb}
use Rattle.rules.specs.Limits.{HEADER_LEN, DAY_MS, TRANSFER, OPEN, SIGNER, OPERATION, ENTRY_AMOUNT, SETTLED_AT}
use Rattle.rules.specs.Table.{all, sum}
use Rattle.rules.specs.Ledger.{Ledger, entry, entry_count}
use Rattle.rules.specs.Record.{read_of}
use Rattle.rules.specs.Refusals.{one_of, paying, counted}
use Rattle.rules.specs.Submit.{submit}
use Rattle.rules.specs.declared.Submission.{Submission}

-- the amounts of the signer's journal rows of one operation that are not older than 24 hours, added up
abbrev pub counted_on : ℕ → Ledger → ℕ → ℕ → ℕ
counted_on op L signer now =
    sum (entry_count L)
    (λ i. cond (all (eqb (entry L i SIGNER) signer ∷ eqb (entry L i OPERATION) op ∷ leb now (entry L i SETTLED_AT + DAY_MS) ∷ [])) (entry L i ENTRY_AMOUNT) 0)

-- "COUNTED ROWS ARE THE SIGNER'S ROWS OF OPERATIONS 2 AND 3": the counted sum is the sum over both
abbrev pub CountsOpens : Type 0
CountsOpens = (L : Ledger) (signer now : ℕ) → counted L signer now ≡ counted_on TRANSFER L signer now + counted_on OPEN L signer now

-- what a submission that settles takes of the signer's room at a clock
abbrev pub taken : Submission → ℕ → ℕ → ℕ
taken s signer now = cond (all (eqb s.signer signer ∷ one_of paying s.op ∷ leb now (s.now + DAY_MS) ∷ [])) s.amount 0

-- "A LATER REFUND DOES NOT GIVE ROOM BACK": a transfer or an open takes its amount, of its signer's room alone and until 24 hours are over; every
-- other submission that settles, a refund, a release or a sweep, leaves everybody's sum at every clock as it was. (One that is refused leaves the
-- ledger: `RefusalChangesNothing`.)
abbrev pub RoomIsTaken : Type 0
RoomIsTaken =
    (L : Ledger) → HEADER_LEN ≤ L.edition.header → (b : List ℕ) → (submit L b).number ≡ 0 → (signer now : ℕ) →
    counted (submit L b).left signer now ≡ counted L signer now + taken (read_of b).submission signer now
