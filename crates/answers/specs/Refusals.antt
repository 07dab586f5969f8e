-- Document 01's number of each refusal, and what a check refuses with: 0 where nothing is refused
use Rattle.std.specs.Prelude.{ℕ, Result, Ok, Err}
use Rattle.answers.specs.declared.Refusal.{Refusal}
use Rattle.answers.specs.declared.Refusal.TheVariants.{NotWellFormed, OtherStore, Ended, StillWaiting, NotOpen, BadArgument, LowPort, NotOurAddress, InUse, ConnectionRefused, PayloadTooLong, NoPeer, NoRoute, WouldWait, AllOpen, ShortBuffer, InterfacesRefused, NotOurs, BadSource, ArrivalTooLong, OutEmpty}

abbrev pub number_of : Refusal → ℕ
number_of NotWellFormed = 1
number_of OtherStore = 2
number_of Ended = 3
number_of StillWaiting = 4
number_of NotOpen = 5
number_of BadArgument = 6
number_of LowPort = 7
number_of NotOurAddress = 8
number_of InUse = 9
number_of ConnectionRefused = 10
number_of PayloadTooLong = 11
number_of NoPeer = 12
number_of NoRoute = 13
number_of WouldWait = 14
number_of AllOpen = 15
number_of ShortBuffer = 16
number_of InterfacesRefused = 17
number_of NotOurs = 24
number_of BadSource = 25
number_of ArrivalTooLong = 26
number_of OutEmpty = 31

abbrev pub refused_with : {A : Type 0} → Result A Refusal → ℕ
refused_with (Ok x) = 0
refused_with (Err r) = number_of r
