-- Everything that the calls promise, in one list.
use Rattle.rules.specs.Promises.Bitmaps.{AreaLayout, BitmapLayout}
use Rattle.rules.specs.Promises.Boots.{BootLooksAtLengths, AcceptedBoot}
use Rattle.rules.specs.Promises.Declares.{BaseZeroCancelsFixed, DeclareTakesHighest, DeclareKeepsToLimit, AcceptedDeclare, DeclareKeepsShape}
use Rattle.rules.specs.Promises.Devices.{AcceptedDeviceStore, AcceptedDeviceRead}
use Rattle.rules.specs.Promises.Grants.{GrantIsFirstFit}
use Rattle.rules.specs.Promises.Moves.{AcceptedGrant}
use Rattle.rules.specs.Promises.Numbers.{RefusedExactly, RefusalHasZeros, BootAnswersPlace}
use Rattle.rules.specs.Promises.Pages.{FreeIsMeant, AcceptedPutMovable, AcceptedPutFixed, LiveIfStands, AcceptedDrop, AcceptedPin, AcceptedUnpin, AcceptedStore, AcceptedRead, StoreThenRead, PinnedPagesStay}
use Rattle.rules.specs.Promises.Releases.{AcceptedRelease, FreedRoomIsUsed}
use Rattle.rules.specs.Promises.Reports.{ReportFigures, ReportLines, AcceptedReport, ReportWithoutWords}
use Rattle.rules.specs.Promises.Rounded.{AmountsRound, LimitRounds}
use Rattle.rules.specs.Promises.Shapes.{ShapeIsRight}
use Rattle.rules.specs.Promises.Unchanged.{RefusalChangesNothing, AcceptedCounts, BytesBeside, OwnersStay}

pub record AllPromises : Type 0 where
  pub shape : ShapeIsRight
  pub areas : AreaLayout
  pub bitmaps : BitmapLayout
  pub numbers : RefusedExactly
  pub refusal_zeros : RefusalHasZeros
  pub boot_place : BootAnswersPlace
  pub refusal : RefusalChangesNothing
  pub counts : AcceptedCounts
  pub bytes : BytesBeside
  pub owners : OwnersStay
  pub free : FreeIsMeant
  pub put_movable : AcceptedPutMovable
  pub put_fixed : AcceptedPutFixed
  pub live : LiveIfStands
  pub drop : AcceptedDrop
  pub pin : AcceptedPin
  pub unpin : AcceptedUnpin
  pub store : AcceptedStore
  pub read : AcceptedRead
  pub store_then_read : StoreThenRead
  pub pinned : PinnedPagesStay
  pub first_fit : GrantIsFirstFit
  pub grant : AcceptedGrant
  pub release : AcceptedRelease
  pub freed_room : FreedRoomIsUsed
  pub device_store : AcceptedDeviceStore
  pub device_read : AcceptedDeviceRead
  pub amounts : AmountsRound
  pub limit : LimitRounds
  pub base_zero : BaseZeroCancelsFixed
  pub highest : DeclareTakesHighest
  pub reach : DeclareKeepsToLimit
  pub declare : AcceptedDeclare
  pub shape_kept : DeclareKeepsShape
  pub boot_lengths : BootLooksAtLengths
  pub boot : AcceptedBoot
  pub figures : ReportFigures
  pub lines : ReportLines
  pub report : AcceptedReport
  pub report_words : ReportWithoutWords
