-- Computed: functions that the code is compared with.
pub mod Digits
