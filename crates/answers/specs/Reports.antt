-- Document 01's number of what is done
use Rattle.std.specs.Prelude.{ℕ}
use Rattle.answers.specs.declared.Report.{Report}
use Rattle.answers.specs.declared.Report.TheVariants.{Done, Waiting, Delivered, Dropped, NoticeQueued, NoticeNotQueued, Heard, NotTold, Nobody, Emitted, Discarded}

abbrev pub report_number : Report → ℕ
report_number Done = 0
report_number Waiting = 18
report_number Delivered = 20
report_number Dropped = 21
report_number NoticeQueued = 22
report_number NoticeNotQueued = 23
report_number Heard = 27
report_number NotTold = 28
report_number Nobody = 29
report_number Emitted = 30
report_number Discarded = 32
