use Rattle.std.proofs.Common.{arith}
use Rattle.batch_repr.proofs.Sizes.{one, two, three, four, five}
use Rattle.batch_repr.proofs.unwritten.varint_size.Goals as goal

pub returns-in-0-to-127-clause-size : goal.returns-in-0-to-127-clause-size
returns-in-0-to-127-clause-size c = one c.args.n (omega arith)

pub returns-in-128-to-16383-clause-size : goal.returns-in-128-to-16383-clause-size
returns-in-128-to-16383-clause-size c = two c.args.n (omega arith) (omega arith)

pub returns-in-16384-to-2097151-clause-size : goal.returns-in-16384-to-2097151-clause-size
returns-in-16384-to-2097151-clause-size c = three c.args.n (omega arith) (omega arith)

pub returns-in-2097152-to-268435455-clause-size : goal.returns-in-2097152-to-268435455-clause-size
returns-in-2097152-to-268435455-clause-size c = four c.args.n (omega arith) (omega arith)

pub returns-in_default-clause-size : goal.returns-in_default-clause-size
returns-in_default-clause-size c = five c.args.n (omega arith)
