use Rattle.fraction.proofs.OverOne.{fits_whole, too-high, too-low}
use Rattle.fraction.proofs.whole.Goals as goal

pub returns-then-z-ltminus2147483647 : goal.returns-then-z-ltminus2147483647
returns-then-z-ltminus2147483647 c = too-low _ c.ranges.z c.if-z-ltminus2147483647.true

pub returns-then-z-gt2147483647 : goal.returns-then-z-gt2147483647
returns-then-z-gt2147483647 c = too-high _ c.ranges.z c.if-z-gt2147483647.true

pub returns : goal.returns
returns c = fits_whole _ c.ranges.z c.if-z-ltminus2147483647.false c.if-z-gt2147483647.false
