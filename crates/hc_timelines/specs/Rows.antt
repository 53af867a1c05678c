-- How replies are drawn.
use Rattle.hc_history.specs.declared.verdicts.Finding.{Finding}
use Rattle.hc_history.specs.declared.verdicts.Finding.TheVariants.{Right, Wrong}
use Rattle.hc_html.specs.declared.tags.Class.{Class}
use Rattle.hc_html.specs.declared.tags.Class.TheVariants as class
use Rattle.hc_status.specs.declared.marks.Mark.{Mark}
use Rattle.hc_status.specs.declared.marks.Mark.TheVariants.{Both, Forwarded, Hit, Unmarked}

-- what is wrong is marked so, and nothing else is
abbrev pub class_of : Finding → Mark → Class
class_of (Wrong why) mark = class.Wrong
class_of Right (Hit ttl) = class.Hit
class_of Right (Forwarded collapsed) = class.Other
class_of Right Both = class.Other
class_of Right Unmarked = class.Other
