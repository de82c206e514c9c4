-- What every call does: the contracts' own definitions under one name. Bytes are lent beside the call: a boot's text, a report's buffer. No other
-- call looks at them.
use Rattle.std.specs.Prelude.{ℕ, List, if◌then◌else◌}
use Rattle.frames.specs.Tables.{Tables}
use Rattle.rules.specs.declared.Call.{Call}
use Rattle.rules.specs.declared.Record.{Record}
use Rattle.rules.specs.Outcomes.{Outcome}
use Rattle.rules.specs.PageCalls as PageCalls
use Rattle.rules.specs.DeviceCalls as DeviceCalls
use Rattle.rules.specs.Declare as Declare
use Rattle.rules.specs.Boot as Boot
use Rattle.rules.specs.Report as Report
use Rattle.rules.specs.Ledger.Roles.{role_of}

abbrev pub perform : Call → List ℕ → Record → Tables → Outcome
perform (Call.PutMovable name) bytes m t = PageCalls.put_movable m name t
perform (Call.PutFixed name) bytes m t = PageCalls.put_fixed m name t
perform (Call.Drop name) bytes m t = PageCalls.drop_page m name t
perform (Call.Pin name) bytes m t = PageCalls.pin_page m name t
perform (Call.Unpin name) bytes m t = PageCalls.unpin_page m name t
perform (Call.Store name word) bytes m t = PageCalls.store_page m name word t
perform (Call.Read name) bytes m t = PageCalls.read_page m name t
perform (Call.Grant area count align_order device) bytes m t = DeviceCalls.grant m area count align_order device t
perform (Call.Release area frame count device) bytes m t = DeviceCalls.release m area frame count device t
perform (Call.DeviceStore frame word device) bytes m t = DeviceCalls.device_store m frame word device t
perform (Call.DeviceRead frame device) bytes m t = DeviceCalls.device_read m frame device t
perform (Call.Declare request) bytes m t = Declare.declare m request t
perform (Call.Boot base frames block_order) bytes m t = Boot.boot m base.0 frames block_order bytes t
perform Call.Report bytes m t = Report.report m bytes t

-- the bytes after a call: a report writes, and nothing else does
abbrev pub bytes_after : Call → List ℕ → Record → Tables → List ℕ
bytes_after call bytes m t = if (role_of call).is_report then Report.reported m bytes t else bytes
