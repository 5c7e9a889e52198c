-- WRITE and WRITE_EPOCH as they are called: the replies of the rule, as the code has them and told in a struct.
use Rattle.std.specs.Prelude.{ℕ, Result, Ok, Err}
use Rattle.rinex.specs.Promises.{WriteReply, written, no_text, no_place, number}
use Rattle.write_reply.specs.declared.Reply.{Reply}
use Rattle.write_reply.specs.declared.Unwritten.{Unwritten}
use Rattle.write_reply.specs.declared.Unwritten.TheVariants.{NoText, NoRoom}

-- the reply as it is told; what it does not say is 0
abbrev pub told : WriteReply → Reply
told (written n) = record { number = number (written n); line = 0; count = n }
told no_text = record { number = number no_text; line = 0; count = 0 }
told no_place = record { number = number no_place; line = 0; count = 0 }

-- the reply that a result stands for
abbrev pub write_meant : Result ℕ Unwritten → WriteReply
write_meant (Ok n) = written n
write_meant (Err NoText) = no_text
write_meant (Err NoRoom) = no_place

-- the result that says so
abbrev pub result_of : WriteReply → Result ℕ Unwritten
result_of (written n) = Ok n
result_of no_text = Err NoText
result_of no_place = Err NoRoom
