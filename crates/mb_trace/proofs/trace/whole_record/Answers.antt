use Rattle.std.proofs.Common.{arith}
use Rattle.mb_trace.proofs.TraceLemmas.{size-is, has_from-le, has_not_from-lt, none_in-short}
use Rattle.mb_trace.proofs.trace.whole_record.Goals as goal

pub returns-then-bytes-lt-HEADER-clause-part : goal.returns-then-bytes-lt-HEADER-clause-part
returns-then-bytes-lt-HEADER-clause-part c = record {
  none = none_in-short c.args.bytes.now (omega arith);
  room = omega arith;
}

pub returns-then-size-bytes-clause-whole : goal.returns-then-size-bytes-clause-whole
returns-then-size-bytes-clause-whole c =
    let e = size-is c.args.bytes.now in record {
      has = has_from-le c.args.bytes.now (omega (arith, c.be16.ensures, c.from-size.ensures));
      is = omega (arith, c.be16.ensures, c.from-size.ensures);
      header = omega arith;
      within = c.if-size-bytes.true;
      most = omega (arith, c.be16.type_inv, c.from-size.ensures);
    }

pub returns-else-size-bytes-clause-part : goal.returns-else-size-bytes-clause-part
returns-else-size-bytes-clause-part c =
    let e = size-is c.args.bytes.now in record {
      none = has_not_from-lt c.args.bytes.now (omega arith);
      room = omega arith;
    }
