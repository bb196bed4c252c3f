-- `envelope::seen` meets its contract: signer and nonce are seen in n rows just if they are seen in the first i, or found in the row looked at last.
use Rattle.envelope.proofs.Search.{seen_next, seen_ends}
use borrow.Author.Rules.{rules}
use Rattle.envelope.proofs.seen.Goals as goal

pub loop-i-preserved : goal.loop-i-preserved
loop-i-preserved c = (search rules, seen_next _ _ _ _ _ _ c.loop-i-test.true c.loop-i.invariant.1)

pub returns : goal.returns
returns c = seen_ends _ _ _ _ _ _ c.loop-i-test.false c.loop-i.invariant.1
