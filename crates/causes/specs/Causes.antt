-- The causes of a SERVFAIL and their numbers.
use Rattle.std.specs.Prelude.{ℕ}
use Rattle.causes.specs.declared.cause.Cause.{Cause}
use Rattle.causes.specs.declared.cause.Cause.TheVariants.{TooManyOpen, DeadlineOver, ChainTooLong, TooManyAsks, NoServerLeft, ReplyTooLarge, KnownFailure, TooManyLookUps}

abbrev pub cause_number : Cause → ℕ
cause_number TooManyOpen = 1
cause_number DeadlineOver = 2
cause_number ChainTooLong = 3
cause_number TooManyAsks = 4
cause_number NoServerLeft = 5
cause_number ReplyTooLarge = 6
cause_number KnownFailure = 7
cause_number TooManyLookUps = 8
