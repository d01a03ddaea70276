mod Calendar
mod Compact
