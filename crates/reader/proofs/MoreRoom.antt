-- MORE ROOM over the call: `Reads` is what `read` ensures. Assumes nothing.
use Rattle.rinex.specs.Promises.{ReadReply}
use Rattle.rinex.specs.Theorems.{MoreLent}
use Rattle.rinex.proofs.MoreLent.{more_lent}
use Rattle.read_reply.specs.declared.Reply.{Reply}
use Rattle.reader.specs.Reading.{reply_of, Reads}
use Rattle.reader.proofs.Settled.{same_reply}

-- what a reply's struct tells
abbrev pub meant : Reply → ReadReply
meant r = reply_of r.number r

pub more_read : MoreLent meant Reads
more_read =
    record {
      same = λ t b a c d r s w x y h.
          let q = more_lent.same t b a c d (meant r) (meant s) w x.promise y.promise h in
          (same_reply t t c b d a s r y x q.0, q.1);
      no_earlier = λ t b a c d r s k m j w x y. more_lent.no_earlier t b a c d (meant r) (meant s) k m j w x.promise y.promise;
    }
