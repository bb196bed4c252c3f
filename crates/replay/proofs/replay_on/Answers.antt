-- `replay::replay_on` meets its contract. The invariant: k entries agree, what is left to replay gives the whole, and the tables are ready for the
-- next entry, so that it may be submitted without a test.
use mathlib.Core.Path.{refl}
use native.Mathlib.Omega.{arith}
use borrow.Author.Rules.{rules}
use Rattle.replay.proofs.Entries.{replaying_none, in_numbers, one_more, disagrees, all_done}
use Rattle.replay.proofs.replay_on.Goals as goal

pub loop-k-init : goal.loop-k-init
loop-k-init c =
    (record { edition = refl; header = refl; wallets = refl; escrows = refl; receipts = refl; journal = refl }, replaying_none _ _ c.requires.1)

pub step-requires : goal.step-requires
step-requires c = (c.requires.0, c.loop-k.invariant.1.ready)

pub returns-then-ne : goal.returns-then-ne
returns-then-ne c =
    disagrees c.args.recording.now _ c.loop-k.invariant.1 c.loop-k-test.true
    (record { read = c.recorded_at-recorded.ensures; given = in_numbers _ c.from-answered.ensures c.step.ensures })
    c.ne.ensures c.if-ne.true

pub loop-k-preserved : goal.loop-k-preserved
loop-k-preserved c = (
  record {
    edition = refl;
    header = search rules;
    wallets = search rules;
    escrows = search rules;
    receipts = search rules;
    journal = search rules;
  },
  one_more c.args.recording.now _ c.loop-k.invariant.1 c.loop-k-test.true
      (record { read = c.recorded_at-recorded.ensures; given = in_numbers _ c.from-answered.ensures c.step.ensures })
      c.ne.ensures
      c.requires.0
      c.if-ne.false,
)

pub returns : goal.returns
returns c = all_done c.args.recording.now _ c.loop-k.invariant.1 (omega arith) c.at_end.ensures
