-- One entry of the report, over plain values: what was decided of it is what the submission comes to, its line is that of the definition, and so
-- counting or stopping is what the definition does.
use mathlib.Core.Path.{◌≡◌, refl, sym, ap, ap₂, ◌∙◌}
use mathlib.Core.Logic.{◌≢◌}
use mathlib.Core.List.{List, [], ◌∷◌, ◌++◌}
use mathlib.Core.Bool.{Bool, true, false, cond}
use Prim.Native.Nat.{ℕ, zero, suc, ◌+◌, ◌≤◌, ◌<◌}
use native.Mathlib.Omega.{arith}
use lib.Dec.{eqb}
use lib.ListN.{get_or}
use borrow.Author.Tests.{eq-eqb, ne_eqb}
use Rattle.rules.specs.Limits.{GRID_ROWS, ANSWERS, LAST_FIGURE, FIGURES}
use Rattle.rules.specs.Ledger.{Ledger, Outcome}
use Rattle.rules.specs.Numbers.{as_number, decided_as}
use Rattle.rules.specs.Record.{decode, read_of}
use Rattle.rules.specs.Report.{Grid, cell, raised, Report, report_of, grid_row, adds_of, Line, line_of, sums, tallied, first_past, passing, stopped}
use Rattle.rules.specs.Settle.{Done, settle}
use Rattle.rules.specs.Submit.{decided, finish, submit_read_by, submit_by, submit}
use Rattle.rules.specs.declared.Decided.{Decided}
use Rattle.rules.specs.declared.Read.{Read}
use Rattle.rules.specs.declared.Submission.{Submission}
use Rattle.grid.specs.declared.Named.{Named}
use Rattle.grid.specs.Named.{number_of}
use Rattle.rules.proofs.Adds.{adds_none}
use Rattle.rules.proofs.Bounded.{passing_none}
use Rattle.rules.proofs.Demand12.{on_the_list}
use Rattle.rules.proofs.Tallies.{row_listed}
use Rattle.counting.specs.Turn.{turned, turn_by, turn}

-- ---- what was decided, with the number that the code has of it

abbrev pub as_read : ℕ → Submission → Read
as_read n s = record { number = n; submission = s }

pub number_read : (d : Decided) {n : ℕ} {r : Read} → n ≡ as_number d.outcome → decided_as d ≡ r → as_read n d.submission ≡ r
number_read d e is = ap (λ (k : ℕ). as_read k d.submission) e ∙ is

pub adds_by : (L : Ledger) (d : Decided) {n : ℕ} {x : List ℕ} → n ≡ as_number d.outcome
    → x ≡ adds_of L d.submission (finish (as_number d.outcome) (settle d.submission L) L) → x ≡ adds_of L d.submission (finish n (settle d.submission L) L)
adds_by L d e x = x ∙ ap (λ (k : ℕ). adds_of L d.submission (finish k (settle d.submission L) L)) (sym e)

pub left_by : (L : Ledger) (d : Decided) {n : ℕ} {K : Ledger} → n ≡ as_number d.outcome → K ≡ (finish (as_number d.outcome) (settle d.submission L) L).left
    → K ≡ (finish n (settle d.submission L) L).left
left_by L d e x = x ∙ ap (λ (k : ℕ). (finish k (settle d.submission L) L).left) (sym e)

-- what is named has a number that is not 0
pub named_so : (named : Named) {n : ℕ} → n ≡ number_of named → n ≢ 0
named_so named e z = not_0 named (sym e ∙ z)
  where
    not_0 : (named : Named) → number_of named ≢ 0
    not_0 named = grind arith

-- and what it adds

pub plans_none : (L : Ledger) (d : Read) → d.number ≢ 0 → (0 ∷ 0 ∷ 0 ∷ 0 ∷ 0 ∷ []) ≡ adds_of L d.submission (finish d.number (settle d.submission L) L)
plans_none L d h = go d.number h
  where
    go : (n : ℕ) → n ≢ 0 → (0 ∷ 0 ∷ 0 ∷ 0 ∷ 0 ∷ []) ≡ adds_of L d.submission (finish n (settle d.submission L) L)
    go zero h = absurd (h refl)
    go (suc n) h = sym (adds_none L d.submission (suc n) 0 h)

-- ---- an entry

-- what the code has found of an entry: what was decided, the row of its operation byte, and what it will add
pub record Found (L : Ledger) (b : List ℕ) (d : Read) (row : ℕ) (adds : List ℕ) : Type 0 where
  pub is : d ≡ decided L b
  pub row_is : row ≡ grid_row (get_or b 2 0)
  pub adds_is : adds ≡ adds_of L d.submission (finish d.number (settle d.submission L) L)

abbrev as_line : ℕ → ℕ → List ℕ → Line
as_line row column adds = record { row = row; column = column; adds = adds }

module _ {L : Ledger} {b : List ℕ} {d : Read} {row : ℕ} {adds : List ℕ} (found : Found L b d row adds) where
  -- what was decided is what the submission comes to
  pub comes_to : finish d.number (settle d.submission L) L ≡ submit L b
  unfolding submit_by submit_read_by
  comes_to = ap (λ (x : Read). finish x.number (settle x.submission L) L) found.is

  number_there : (n : ℕ) (x : Done) → (finish n x L).number ≡ n
  number_there zero x = refl
  number_there (suc n) x = refl

  number_is : d.number ≡ (submit L b).number
  number_is = sym (number_there d.number (settle d.submission L)) ∙ ap (λ (o : Outcome). o.number) comes_to

  adds_are : adds ≡ adds_of L (read_of b).submission (submit L b)
  adds_are = found.adds_is ∙ ap₂ (λ (x : Read) (o : Outcome). adds_of L x.submission o) found.is comes_to

  line_is : as_line row d.number adds ≡ line_of L b (submit L b)
  unfolding decode
  line_is =
      ap (λ (i : ℕ). as_line i d.number adds) found.row_is
      ∙ ap₂ (λ (j : ℕ) (a : List ℕ). as_line (grid_row (get_or b 2 0)) j a) number_is adds_are

  -- its cell is in the grid
  pub row_in : row < GRID_ROWS
  row_in = omega (arith, row_listed (get_or b 2 0), found.row_is)

  pub column_in : d.number < ANSWERS
  column_in = omega (arith, on_the_list L b, number_is)

  module _ (grid : Grid) (figures named : List ℕ) {count figure : ℕ} (counted : count ≡ cell grid row d.number) (first : figure ≡ first_past 1 (sums figures adds ++ ((count + 1) ∷ []))) where
    R : Report
    R = report_of grid figures named

    l : Line
    l = as_line row d.number adds

    figure_is : figure ≡ passing R l
    unfolding passing R l
    figure_is = first ∙ ap (λ (n : ℕ). first_past 1 (sums figures adds ++ ((n + 1) ∷ []))) counted

    M : Ledger
    M = (finish d.number (settle d.submission L) L).left

    -- the turn, by what the code has found
    turn_is : turn_by R L M l ≡ turn R L b
    unfolding turn l M
    turn_is = ap₂ (λ (K : Ledger) (x : Line). turn_by R L K x) (ap (λ (o : Outcome). o.left) comes_to) line_is

    pub stops_here : figure ≢ 0 → turned (report_of grid figures (figure ∷ row ∷ d.number ∷ [])) L ≡ turn (report_of grid figures named) L b
    unfolding R l stopped
    stops_here h =
        let f : eqb (passing R l) 0 ≡ false = ne_eqb (passing R l) 0 (λ z. h (figure_is ∙ z)) in
        ap (λ (n : ℕ). turned (report_of grid figures (n ∷ row ∷ d.number ∷ [])) L) figure_is
        ∙ sym (ap (λ (x : Bool). cond x (turned (tallied R l) M) (turned (stopped R l) L)) f) ∙ turn_is

    -- nothing passes: what is added fits, and so does one more in the cell
    module _ (none : figure ≡ 0) where
      fits : ((k : ℕ) → k < FIGURES → get_or figures k 0 + get_or adds k 0 ≤ LAST_FIGURE) × (cell grid row d.number + 1 ≤ LAST_FIGURE)
      unfolding R l
      fits = passing_none R l (sym figure_is ∙ none)

      pub figures_fit : (k : ℕ) → k < FIGURES → get_or figures k 0 + get_or adds k 0 ≤ LAST_FIGURE
      figures_fit = fits.0

      pub cell_fits : cell grid row d.number + 1 ≤ LAST_FIGURE
      cell_fits = fits.1

      pub counts_here : {grid' : Grid} {figures' : List ℕ} {L' : Ledger} → figures' ≡ sums figures adds → L' ≡ (finish d.number (settle d.submission L) L).left
          → grid' ≡ raised grid row d.number → turned (report_of grid' figures' named) L' ≡ turn (report_of grid figures named) L b
      unfolding R l M tallied
      counts_here {grid'} {figures'} {L'} x y z =
          let t : eqb (passing R l) 0 ≡ true = eq-eqb (passing R l) 0 (sym figure_is ∙ none) in
          ap₂ (λ (g : Grid) (f : List ℕ). turned (report_of g f named) L') z x ∙ ap (turned (tallied R l)) y
          ∙ sym (ap (λ (w : Bool). cond w (turned (tallied R l) M) (turned (stopped R l) L)) t) ∙ turn_is
