-- READ as it is called: the promise of the rule, told in a struct.
use Rattle.std.specs.Prelude.{ℕ, zero, suc, ◌≡◌, List}
use Rattle.rinex.specs.Tables.{Buffers}
use Rattle.rinex.specs.Lent.{head_of, counts_of}
use Rattle.rinex.specs.Promises.{ReadReply, taken, turned_away, Read}
use Rattle.read_reply.specs.declared.Reply.{Reply}
use Rattle.read_reply.specs.Replies.{no_head, no_counts}

-- number 0 is an acceptance, any other a refusal
abbrev pub reply_of : ℕ → Reply → ReadReply
reply_of zero r = taken (head_of r.head) (counts_of r.counts)
reply_of (suc n) r = turned_away (suc n) r.line

-- the text is read, with these buffers lent and those handed back
pub record Reads (t : List ℕ) (before after : Buffers) (r : Reply) : Type 0 where
  pub promise : Read t before after (reply_of r.number r)
  pub no_line : r.number ≡ 0 → r.line ≡ 0
  pub no_head : (r.number ≡ 0 → ⊥) → r.head ≡ no_head
  pub no_counts : (r.number ≡ 0 → ⊥) → r.counts ≡ no_counts
