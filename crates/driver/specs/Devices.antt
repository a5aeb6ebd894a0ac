use Rattle.device.specs.declared.device.Device.{Ghosts}
use Rattle.sequences.specs.Held.{Held}
use Rattle.driver.specs.declared.ready.Ready.{Ready}

-- the device that a ready driver holds
abbrev pub device_of : {D : Type 0} {ghosts : Ghosts D} → Ready D ghosts → D
device_of s = s.channel.device

-- and its channel
abbrev pub channel_of : {D : Type 0} {ghosts : Ghosts D} → Ready D ghosts → Held D
channel_of s = s.channel
