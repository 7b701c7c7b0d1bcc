pub mod SettingsRows
