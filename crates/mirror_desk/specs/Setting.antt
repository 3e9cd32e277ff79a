-- What all desks of a mirror have in common.
use Rattle.std.specs.Prelude.{ℕ, Option}
use Rattle.std.specs.Option.{is_some}
use Rattle.user_table.specs.Users.{Users}
use Rattle.mirror_desk.specs.declared.setting.MirrorSetting.{MirrorSetting}

-- of a mirror with these users, which answers reads only while it is known to be level where it is told for how many seconds that is
abbrev pub setting_of : Option ℕ → Users → MirrorSetting
setting_of until_level users = record { users = users; only_level = is_some until_level }
