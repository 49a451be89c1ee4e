pub mod ByNumber
pub mod SettingDone
pub mod SettingNew
pub mod NotingCalls
pub mod Processing
pub mod PartsRefused
pub mod Replies
pub mod Refused
